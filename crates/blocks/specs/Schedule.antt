-- A message schedule, for any rule that makes a word from the sixteen before it: as one list that grows, and as sixteen words that are
-- written over in turn.
use Rattle.std.specs.Prelude.{◌≡◌, List, [], ◌∷◌, ◌++◌, ℕ, zero, suc, ◌-◌, ◌%◌, ◌≤◌, ltb, get_or, set, length, take, replicate}
use Rattle.flow.specs.Choice.{pick}

-- FIPS 180-4 5.2.1: the words of a block
abbrev pub WORDS : ℕ
WORDS = 16

-- the word d places before the word t
abbrev pub back : List ℕ → ℕ → ℕ → ℕ
back w t d = get_or w (t - d) 0

-- FIPS 180-4 6.1.2 and 6.2.2, step 1: the first t words of the schedule. M_t are the block's words, and a rule is given how to look back.
unfoldable pub schedule : (ℕ → ℕ) → ((ℕ → ℕ) → ℕ) → ℕ → List ℕ
schedule M rule zero = []
schedule M rule (suc t) = let w = schedule M rule t in w ++ (pick (ltb t WORDS) (M t) (rule (back w t)) ∷ [])

-- FIPS 180-4 6.1.3: the words from t - 16 on, where the word t takes the place of the word t - 16
abbrev pub turned : List ℕ → ℕ → ℕ → ℕ
turned v t d = get_or v ((t - d) % WORDS) 0

unfoldable pub window : (ℕ → ℕ) → ((ℕ → ℕ) → ℕ) → ℕ → List ℕ
window M rule zero = replicate WORDS 0
window M rule (suc t) = let v = window M rule t in set v (t % WORDS) (pick (ltb t WORDS) (M t) (rule (turned v t)))

-- a rule that looks at no word but the sixteen before
abbrev pub Recent : ((ℕ → ℕ) → ℕ) → Type 0
Recent rule = (f g : ℕ → ℕ) → ((d : ℕ) → 1 ≤ d → d ≤ WORDS → f d ≡ g d) → rule f ≡ rule g

-- an array of so many words whose first t are those of the schedule
pub record Scheduled (size : ℕ) (M : ℕ → ℕ) (rule : (ℕ → ℕ) → ℕ) (t : ℕ) (array : List ℕ) : Type 0 where
  pub room : length array ≡ size
  pub words : take t array ≡ schedule M rule t
