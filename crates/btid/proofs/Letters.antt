-- The alphabet: the six bits of a letter are read back from it, and the code's tests come to the table's choices.
use Prim.Native.Nat.{ℕ, zero, suc, ◌+◌, ◌-◌, ◌≤◌, ◌<◌}
use native.Mathlib.Omega.{arith}
use native.Mathlib.Nat.{not-suc-le-zero, eq-or-lt_of_le}
use mathlib.Core.Path.{◌≡◌, refl, ap, ◌∙◌}
use mathlib.Core.Bool.{Bool, true, false, ◌&&◌, and-false, false≢true}
use mathlib.Core.Logic.{⊎_elim}
use lib.Dec.{leb, eqb}
use borrow.Author.Tests.{eqb-true, le-leb, leb-true}
use Rattle.flow.specs.Choice.{pick}
use Rattle.flow.proofs.Choices.{split, by-true, by-false, by-ne, yes_back}
use Rattle.btid.specs.Base64.{letter_of, six_of}

-- a test that holds of every number below k
every : (ℕ → Bool) → ℕ → Bool
every p zero = true
every p (suc k) = pick (p k) (every p k) false

at : (p : ℕ → Bool) (k : ℕ) → every p k ≡ true → (n : ℕ) → n < k → p n ≡ true
unfolding every
at p zero e n h = absurd (not-suc-le-zero h)
at p (suc k) e n h =
    let y = yes_back true false false≢true (p k) (every p k) e in
    ⊎_elim (λ q. ap p q ∙ y.0) (λ l. at p k y.1 n l) (eq-or-lt_of_le (omega arith))

pub six-letter : (n : ℕ) → n < 64 → six_of (letter_of n) ≡ n
unfolding six_of every pick
six-letter n h = eqb-true _ _ (at (λ (n : ℕ). eqb (six_of (letter_of n)) n) 64 refl n h)

-- the code's tests, of which the last that is taken counts, are the table's
chosen : ℕ → ℕ
chosen n = pick (eqb n 63) 0x2f (pick (eqb n 62) 0x2b (pick (leb 52 n) (n - 52 + 0x30) (pick (leb 26 n) (n - 26 + 0x61) (n + 0x41))))

last_counts : (n : ℕ) → n < 64 → chosen n ≡ letter_of n
unfolding chosen every pick
last_counts n h = eqb-true _ _ (at (λ (n : ℕ). eqb (chosen n) (letter_of n)) 64 refl n h)

pub letter-chosen : {n r₁ r₂ r₃ r : ℕ} → n < 64 → r₁ ≡ pick (leb 26 n) (n - 26 + 0x61) (n + 0x41) → r₂ ≡ pick (leb 52 n) (n - 52 + 0x30) r₁
    → r₃ ≡ pick (eqb n 62) 0x2b r₂ → r ≡ pick (eqb n 63) 0x2f r₃ → r ≡ letter_of n
unfolding chosen
letter-chosen {n} h p q u v = cc (last_counts n h)

-- a range of letters: its two ends are two tests
module _ (o x y a b l : ℕ) where
  inside : a ≤ l → l ≤ b → o ≡ x → o ≡ pick (leb a l && leb l b) x y
  inside h k p = by-true o x y (leb a l && leb l b) (rw (le-leb a l h, le-leb l b k)) p

  outside : (a ≤ l → l ≤ b → ⊥) → o ≡ y → o ≡ pick (leb a l && leb l b) x y
  outside h p =
      ⊎_elim
      (λ u. ⊎_elim (λ v. absurd (h (leb-true a l u) (leb-true l b v)))
      (λ v. by-false o x y (leb a l && leb l b) (rw v (and-false (leb a l))) p) (split (leb l b)))
      (λ u. by-false o x y (leb a l && leb l b) (rw u) p)
      (split (leb a l))

module _ (l : ℕ) where
  pub upper_six : 0x41 ≤ l → l ≤ 0x5a → l - 0x41 ≡ six_of l
  unfolding six_of
  upper_six h k = inside _ _ _ 0x41 0x5a l h k refl

  pub lower_six : 0x61 ≤ l → l ≤ 0x7a → l - 0x61 + 26 ≡ six_of l
  unfolding six_of
  lower_six h k = outside _ _ _ 0x41 0x5a l (omega arith) (inside _ _ _ 0x61 0x7a l h k refl)

  pub digit-six : 0x30 ≤ l → l ≤ 0x39 → l - 0x30 + 52 ≡ six_of l
  unfolding six_of
  digit-six h k = outside _ _ _ 0x41 0x5a l (omega arith) (outside _ _ _ 0x61 0x7a l (omega arith) (inside _ _ _ 0x30 0x39 l h k refl))

  pub plus-six : l ≡ 0x2b → 62 ≡ six_of l
  unfolding six_of pick
  plus-six e = rw e

  pub slash_six : l ≡ 0x2f → 63 ≡ six_of l
  unfolding six_of pick
  slash_six e = rw e

  pub no_six : (0x41 ≤ l → l ≤ 0x5a → ⊥) → (0x61 ≤ l → l ≤ 0x7a → ⊥) → (0x30 ≤ l → l ≤ 0x39 → ⊥) → (l ≡ 0x2b → ⊥) → (l ≡ 0x2f → ⊥) → 64 ≡ six_of l
  unfolding six_of
  no_six u w d p s = outside _ _ _ 0x41 0x5a l u (outside _ _ _ 0x61 0x7a l w (outside _ _ _ 0x30 0x39 l d (by-ne _ _ _ l 0x2b p (by-ne _ _ _ l 0x2f s refl))))
