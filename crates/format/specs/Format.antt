-- A format says what stands on the line: numbers, texts, octets, one after another, counted lists, and choices by an octet. `Format A` has
-- values of the type A; what a value's octets are, which values are in range, and how octets are read is said once, for all formats.
use Rattle.std.specs.Prelude.{ℕ, ◌+◌, ◌≡◌, Bool, true, false, not, ◌&&◌, ◌⊎◌, List, [], ◌∷◌, ◌++◌, length, get_or, eqb, ltb, leb}
use Rattle.std.proofs.Common.{inl, inr}
use Rattle.flow.specs.Choice.{pick}
use Rattle.limits.specs.Limits.{RANGE}
use Rattle.line.specs.Number.{encode, number_at, with_num}
use Rattle.line.specs.Text.{text_octets, octets_at, text_at, with_span, between}
use Rattle.format.specs.Read.{Read, got, bad, and_then, times, every, joined}

infixr 50 ◌⨾◌
pub data Format : Type 0 → Type 1 where
  -- a number of lo to hi
  number : (lo hi : ℕ) → Format ℕ
  -- a text of lo to hi octets
  text : (lo hi : ℕ) → Format (List ℕ)
  -- n bare octets
  bare : (n : ℕ) → Format (List ℕ)
  -- one octet that passes a test
  octet : (p : ℕ → Bool) → Format ℕ
  nothing : Format (Unit {0})
  -- one after another
  ◌⨾◌ : {A B : Type 0} → Format A → Format B → Format (A × B)
  -- a count of at most hi, then that many
  many : {A : Type 0} → (hi : ℕ) → Format A → Format (List A)
  -- the octet k and then the first, or else the second
  tag : {A B : Type 0} → (k : ℕ) → Format A → Format B → Format (A ⊎ B)
  -- no octet is right
  never : Format ⊥
  -- those values alone that pass a test
  such : {A : Type 0} → Format A → (A → Bool) → Format A
  -- the same octets, whose values have names
  named : {A : Type 0} → (B : Type 0) → Format A → (to : A → B) → (from : B → A) → ((b : B) → to (from b) ≡ b) → ((a : A) → from (to a) ≡ a) → Format B

-- the octets of a value
unfoldable pub octets : {A : Type 0} → Format A → A → List ℕ
octets (number lo hi) n = encode n
octets (text lo hi) x = text_octets x
octets (bare n) x = x
octets (octet p) b = b ∷ []
octets nothing x = []
octets (f ⨾ g) x = octets f x.0 ++ octets g x.1
octets (many hi f) xs = encode (length xs) ++ joined (λ a. octets f a) xs
octets (tag k f g) (inl a) = k ∷ octets f a
octets (tag k f g) (inr b) = octets g b
octets never x = absurd x
octets (such f p) x = octets f x
octets (named B f to from p q) x = octets f (from x)

-- whether a value is in range
unfoldable pub fits : {A : Type 0} → Format A → A → Bool
fits (number lo hi) n = leb lo n && leb n hi
fits (text lo hi) x = leb lo (length x) && leb (length x) hi
fits (bare n) x = eqb (length x) n
fits (octet p) b = p b
fits nothing x = true
fits (f ⨾ g) x = fits f x.0 && fits g x.1
fits (many hi f) xs = leb (length xs) hi && every (λ a. fits f a) xs
fits (tag k f g) (inl a) = fits f a
fits (tag k f g) (inr b) = fits g b
fits never x = absurd x
fits (such f p) x = fits f x && p x
fits (named B f to from p q) x = fits f (from x)

-- the value at a place
unfoldable pub read : {A : Type 0} → Format A → List ℕ → ℕ → Read A
read (number lo hi) s at = with_num bad (number_at s at hi) λ n next. pick (ltb n lo) bad (got n next)
read (text lo hi) s at = with_span bad (text_at s at lo hi) λ start end. got (between s start end) end
read (bare n) s at = with_span bad (octets_at s at n) λ start end. got (between s start (start + n)) end
read (octet p) s at = pick (ltb at (length s)) (pick (p (get_or s at 0)) (got (get_or s at 0) (at + 1)) bad) bad
read nothing s at = got tt at
read (f ⨾ g) s at = and_then (read f s at) λ a next. and_then (read g s next) λ b end. got (a, b) end
read (many hi f) s at = with_num bad (number_at s at hi) λ n next. times (λ at. read f s at) n next
read (tag k f g) s at =
    pick (ltb at (length s))
    (pick (eqb (get_or s at 0) k)
    (and_then (read f s (at + 1)) λ a end. got (inl a) end)
    (and_then (read g s at) λ b end. got (inr b) end))
    bad
read never s at = bad
read (such f p) s at = and_then (read f s at) λ a end. pick (p a) (got a end) bad
read (named B f to from p q) s at = and_then (read f s at) λ a end. got (to a) end

-- a body: nothing may follow
unfoldable pub decode : {A : Type 0} → Format A → List ℕ → Read A
decode f s = and_then (read f s 0) λ a end. pick (eqb end (length s)) (got a end) bad

-- no value's octets begin with k
unfoldable pub apart : {A : Type 0} → ℕ → Format A → Bool
apart k (number lo hi) = false
apart k (text lo hi) = false
apart k (bare n) = false
apart k (octet p) = false
apart k nothing = false
apart k (f ⨾ g) = apart k f
apart k (many hi f) = false
apart k (tag j f g) = not (eqb j k) && apart k g
apart k never = true
apart k (such f p) = apart k f
apart k (named B f to from p q) = apart k f

-- what a table has to meet: its numbers are of six groups at the most, and its choices are told apart by their octets
unfoldable pub good : {A : Type 0} → Format A → Bool
good (number lo hi) = ltb hi RANGE
good (text lo hi) = ltb hi RANGE
good (bare n) = true
good (octet p) = true
good nothing = true
good (f ⨾ g) = good f && good g
good (many hi f) = ltb hi RANGE && good f
good (tag k f g) = good f && (good g && apart k g)
good never = true
good (such f p) = good f
good (named B f to from p q) = good f
