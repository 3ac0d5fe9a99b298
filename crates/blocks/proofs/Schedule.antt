-- The message schedule, for any rule: an array that is filled with it, and sixteen words that are turned as it goes.
use mathlib.Core.Path.{◌≡◌, refl, sym, ap, ap₂, ◌∙◌}
use mathlib.Core.Logic.{◌≢◌, ⊎_elim}
use mathlib.Core.Bool.{Bool, true, false}
use mathlib.Core.List.{List, [], ◌∷◌, ◌++◌}
use Prim.Native.Nat.{ℕ, zero, suc, ◌+◌, ◌-◌, ◌%◌, ◌≤◌, ◌<◌}
use native.Mathlib.Nat.{eq-or-lt_of_le, add-suc, add-zero}
use native.Mathlib.Numerals.{add-one}
use native.Mathlib.Omega.{arith}
use lib.Dec.{ltb}
use lib.ListN.{length, get_or, set, length-set, length-append, get_or-append}
use lib.Seq.{get_or-take, get_or_at, get_or-set_same, get_or-set_other, take-suc-set, take_all}
use borrow.Author.Tests.{ltb-false}
use Rattle.flow.specs.Choice.{pick}
use Rattle.flow.proofs.Choices.{by-lt, by-ge}
use Rattle.blocks.specs.Schedule.{WORDS, back, schedule, turned, window, Recent, Scheduled}

-- a choice whose second side matters only where the test is false
pick_second : (b : Bool) (x y z : ℕ) → (b ≡ false → y ≡ z) → pick b x y ≡ pick b x z
unfolding pick
pick_second true x y z h = refl
pick_second false x y z h = h refl

module _ (M : ℕ → ℕ) (rule : (ℕ → ℕ) → ℕ) where
  pub length-schedule : (t : ℕ) → length (schedule M rule t) ≡ t
  unfolding schedule
  length-schedule zero = refl
  length-schedule (suc t) = rw (length-append, length-schedule t) (omega arith)

  -- a word stays where it is while more are made
  stays : (t n i : ℕ) → i < t → get_or (schedule M rule (t + n)) i 0 ≡ get_or (schedule M rule t) i 0
  unfolding schedule
  stays t zero i h = rw add-zero
  stays t (suc n) i h =
      let l : i < length (schedule M rule (t + n)) = omega (arith, length-schedule (t + n)) in
      rw add-suc (get_or-append (schedule M rule (t + n)) _ 0 i l ∙ stays t n i h)

  pub word_stays : (t n i : ℕ) → i < t → t ≤ n → get_or (schedule M rule n) i 0 ≡ get_or (schedule M rule t) i 0
  word_stays t n i h k =
      let e : n ≡ t + (n - t) = omega arith in
      ap (λ (u : ℕ). get_or (schedule M rule u) i 0) e ∙ stays t (n - t) i h

  length-window : (t : ℕ) → length (window M rule t) ≡ WORDS
  unfolding window
  length-window zero = refl
  length-window (suc t) = length-set (window M rule t) _ _ ∙ length-window t

  -- FIPS 180-4 6.1.3: sixteen words, turned as they are made, are the last sixteen of the schedule
  module _ (recent : Recent rule) where
    pub window-is : (t i : ℕ) → i < t → t ≤ i + WORDS → get_or (window M rule t) (i % WORDS) 0 ≡ get_or (schedule M rule t) i 0
    unfolding window schedule
    window-is zero i h k = absurd (omega arith)
    window-is (suc t) i h k =
        let v = window M rule t in
        let w = schedule M rule t in
        let x = pick (ltb t WORDS) (M t) (rule (turned v t)) in
        let y = pick (ltb t WORDS) (M t) (rule (back w t)) in
        let lv = length-window t in
        let lw = length-schedule t in
        let made : x ≡ y =
        pick_second (ltb t WORDS) (M t) _ _
        (λ e.
        let g : WORDS ≤ t = ltb-false _ _ e in
        recent (turned v t) (back w t) (λ d p q. window-is t (t - d) (omega arith) (omega arith))) in
        ⊎_elim
        (λ (e : i ≡ t).
        ap (λ (j : ℕ). get_or (set v (t % WORDS) x) (j % WORDS) 0) e ∙ get_or-set_same v (t % WORDS) x 0 (omega arith) ∙ made
        ∙ sym (get_or_at w y [] 0 t lw) ∙ ap (λ (j : ℕ). get_or (w ++ (y ∷ [])) j 0) (sym e))
        (λ (l : i < t).
        let o : i % WORDS ≢ t % WORDS = λ e. omega arith in
        get_or-set_other v (t % WORDS) (i % WORDS) x 0 o ∙ window-is t i l (omega arith) ∙ sym (get_or-append w (y ∷ []) 0 i (omega arith)))
        (eq-or-lt_of_le (omega arith))

    -- the word that round t takes is the schedule's
    pub window-word : (t n : ℕ) → t < n → get_or (window M rule (t + 1)) (t % WORDS) 0 ≡ get_or (schedule M rule n) t 0
    window-word t n h = window-is (t + 1) t (omega arith) (omega arith) ∙ sym (word_stays (t + 1) n t (omega arith) (omega arith))

  -- sixteen words, one more at a turn
  module _ (t : ℕ) (v : List ℕ) (x : ℕ) (e : v ≡ window M rule t) where
    pub window-first : t < WORDS → x ≡ M t → set v (t % WORDS) x ≡ window M rule (t + 1)
    unfolding window
    window-first h p = rw add-one (ap₂ (λ (l : List ℕ) (y : ℕ). set l (t % WORDS) y) e (by-lt x (M t) _ t WORDS h p))

    pub window-next : WORDS ≤ t → x ≡ rule (turned v t) → set v (t % WORDS) x ≡ window M rule (t + 1)
    unfolding window
    window-next h p =
        let q : x ≡ rule (turned (window M rule t) t) = p ∙ ap (λ (l : List ℕ). rule (turned l t)) e in
        rw add-one (ap₂ (λ (l : List ℕ) (y : ℕ). set l (t % WORDS) y) e (by-ge x (M t) _ t WORDS h q))

-- an array, one word more at a turn
module _ (size : ℕ) (M : ℕ → ℕ) (rule : (ℕ → ℕ) → ℕ) (t : ℕ) (w : List ℕ) (s : Scheduled size M rule t w) where
  word_more : (v : ℕ) → t < size → v ≡ pick (ltb t WORDS) (M t) (rule (back (schedule M rule t) t)) → Scheduled size M rule (t + 1) (set w t v)
  unfolding schedule
  word_more v h p =
      record {
        room = length-set w t v ∙ s.room;
        words = rw add-one (take-suc-set w t v (omega (arith, s.room)) ∙ ap₂ (λ (x : List ℕ) (y : ℕ). x ++ (y ∷ [])) s.words p);
      }

  pub first_word : (v : ℕ) → t < WORDS → t < size → v ≡ M t → Scheduled size M rule (t + 1) (set w t v)
  first_word v h k e = word_more v k (by-lt v (M t) _ t WORDS h e)

  -- what is read of the array is among the words that are there
  pub later-word : Recent rule → (v : ℕ) → WORDS ≤ t → t < size → v ≡ rule (back w t) → Scheduled size M rule (t + 1) (set w t v)
  later-word recent v h k e =
      let there : rule (back w t) ≡ rule (back (schedule M rule t) t) =
      recent (back w t) (back (schedule M rule t) t)
      (λ d p q. sym (get_or-take t w (t - d) 0 (omega arith)) ∙ ap (λ (l : List ℕ). get_or l (t - d) 0) s.words) in
      word_more v k (by-ge v (M t) _ t WORDS h (e ∙ there))

  pub all_words : t ≡ size → w ≡ schedule M rule size
  all_words e = sym (take_all t w (omega (arith, s.room))) ∙ s.words ∙ ap (schedule M rule) e
