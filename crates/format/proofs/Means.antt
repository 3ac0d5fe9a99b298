-- Reading on: what follows a reading of a composed format follows the readings of its parts.
use Prim.Native.Nat.{ℕ, ◌+◌, ◌≤◌, ◌<◌}
use mathlib.Core.Path.{◌≡◌, refl, sym, ap, ◌∙◌}
use mathlib.Core.Bool.{Bool, true, false}
use mathlib.Core.Logic.{◌⊎◌, inl, inr}
use mathlib.Core.List.{List}
use lib.ListN.{length, get_or}
use lib.Dec.{eqb}
use borrow.Author.Tests.{lt-ltb, le-ltb}
use Rattle.flow.specs.Choice.{pick}
use Rattle.format.specs.Read.{Read, got, bad, and_then}
use Rattle.format.specs.Format.{Format, ◌⨾◌, tag, such, named, read}

pub then_then : {A B C : Type 0} (r : Read A) (j : A → ℕ → Read B) (k : B → ℕ → Read C) → and_then (and_then r j) k ≡ and_then r (λ a n. and_then (j a n) k)
unfolding and_then
then_then (got a n) j k = refl
then_then bad j k = refl

pub then_ext : {A B : Type 0} (r : Read A) (j k : A → ℕ → Read B) → ((a : A) (n : ℕ) → j a n ≡ k a n) → and_then r j ≡ and_then r k
unfolding and_then
then_ext (got a n) j k h = h a n
then_ext bad j k h = refl

pub then_got : {A : Type 0} (r : Read A) → and_then r (λ a n. got a n) ≡ r
unfolding and_then
then_got (got a n) = refl
then_got bad = refl

module _ {A B C : Type 0} (f : Format A) (g : Format B) (s : List ℕ) (at : ℕ) where
  pub pair_then : (k : (A × B) → ℕ → Read C) → and_then (read (f ⨾ g) s at) k ≡ and_then (read f s at) (λ a n. and_then (read g s n) (λ b m. k (a, b) m))
  unfolding read and_then
  pair_then k = then_then (read f s at) _ k ∙ then_ext (read f s at) _ _ λ a n. then_then (read g s n) (λ b end. got (a, b) end) k

  pub tag_then : (c : ℕ) (k : (A ⊎ B) → ℕ → Read C) → at < length s
      → and_then (read (tag c f g) s at) k
      ≡ pick (eqb (get_or s at 0) c) (and_then (read f s (at + 1)) λ a n. k (inl a) n) (and_then (read g s at) λ b n. k (inr b) n)
  unfolding read pick and_then
  tag_then c k h = ap (λ (t : Bool). and_then (pick t (pick (eqb (get_or s at 0) c) first second) bad) k) (lt-ltb at (length s) h) ∙ go (eqb (get_or s at 0) c)
    where
      first : Read (A ⊎ B)
      first = and_then (read f s (at + 1)) λ a end. got (inl a) end

      second : Read (A ⊎ B)
      second = and_then (read g s at) λ b end. got (inr b) end

      go : (t : Bool) → and_then (pick true (pick t first second) bad) k
          ≡ pick t (and_then (read f s (at + 1)) λ a n. k (inl a) n) (and_then (read g s at) λ b n. k (inr b) n)
      go true = then_then (read f s (at + 1)) (λ a end. got (inl a) end) k
      go false = then_then (read g s at) (λ b end. got (inr b) end) k

pub named_then : {A B C : Type 0} (f : Format A) (to : A → B) (from : B → A) (p : (b : B) → to (from b) ≡ b) (q : (a : A) → from (to a) ≡ a)
    (s : List ℕ) (at : ℕ) (k : B → ℕ → Read C)
    → and_then (read (named B f to from p q) s at) k ≡ and_then (read f s at) (λ a n. k (to a) n)
unfolding read and_then
named_then f to from p q s at k = then_then (read f s at) (λ a end. got (to a) end) k

-- a field that is tested after it is read
pub such_then : {A C : Type 0} (f : Format A) (p : A → Bool) (s : List ℕ) (at : ℕ) (k : A → ℕ → Read C)
    → and_then (read (such f p) s at) k ≡ and_then (read f s at) (λ a n. pick (p a) (k a n) bad)
unfolding read and_then pick
such_then f p s at k = then_then (read f s at) _ k ∙ then_ext (read f s at) _ _ λ a n. go a n (p a)
  where
    go : (a : _) (n : ℕ) (t : Bool) → and_then (pick t (got a n) bad) k ≡ pick t (k a n) bad
    go a n true = refl
    go a n false = refl

-- where a body ends no choice is read
pub tag-none : {A B C : Type 0} (f : Format A) (g : Format B) (s : List ℕ) (at c : ℕ) (k : (A ⊎ B) → ℕ → Read C) → length s ≤ at
    → bad ≡ and_then (read (tag c f g) s at) k
unfolding read and_then pick
tag-none f g s at c k h = rw (le-ltb at (length s) h)

-- fields that one part reads, and those after them, are all of them in a row
pub regroup : {A B D E C : Type 0} (f : Format A) (g : Format B) (h : Format D) (whole : Format E) (join : B → D → E) (s : List ℕ)
    → ((at : ℕ) (k : E → ℕ → Read C)
    → and_then (read whole s at) k ≡ and_then (read g s at) (λ b n. and_then (read h s n) (λ d m. k (join b d) m)))
    → (at : ℕ) (k : (A × E) → ℕ → Read C)
    → and_then (read (f ⨾ whole) s at) k ≡ and_then (read (f ⨾ g) s at) (λ x n. and_then (read h s n) (λ d m. k (x.0, join x.1 d) m))
regroup f g h whole join s p at k =
    pair_then f whole s at k
    ∙ then_ext (read f s at) _ _ (λ a n. p n (λ y m. k (a, y) m))
    ∙ sym (pair_then f g s at (λ x n. and_then (read h s n) (λ d m. k (x.0, join x.1 d) m)))
