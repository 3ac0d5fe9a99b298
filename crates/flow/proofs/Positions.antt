-- What std says of a search, `position`, `any` or `find`, in the words of specs/Search.
use Rattle.std.specs.Prelude.{Option, Some, None, cond, option_map, position, find}
use Rattle.std.specs.List.{list_any, position_or_len}
use Prim.Native.Nat.{ℕ, suc, ◌+◌, ◌<◌, ◌≤◌}
use native.Mathlib.Omega.{arith}
use mathlib.Core.Logic.{⊎_elim}
use mathlib.Core.Path.{◌≡◌, refl, sym, ap, ◌∙◌}
use mathlib.Core.Bool.{Bool, true, false, not, ◌||◌}
use mathlib.Core.List.{List, [], ◌∷◌}
use lib.Dec.{ltb}
use lib.ListN.{length, get_or}
use borrow.Author.Tests.{lt-ltb, le-ltb, ltb-true, ltb-false}
use Rattle.flow.specs.Choice.{pick}
use Rattle.flow.specs.Search.{first_from, first, found}
use Rattle.flow.proofs.Choices.{split}

-- the place n of so many rows, where the first has the index i
abbrev place : ℕ → ℕ → ℕ → Option ℕ
place i n rows = cond (ltb n rows) (Some (i + n)) None

place-next : (i n rows : ℕ) → place (suc i) n rows ≡ place i (1 + n) (suc rows)
place-next i n rows =
    ⊎_elim
    (λ k. let h : n < rows = ltb-true n rows k in rw (k, lt-ltb (1 + n) (suc rows) (omega arith)) (ap (λ (m : ℕ). Some m) (omega arith)))
    (λ k. let h : rows ≤ n = ltb-false n rows k in rw (k, le-ltb (1 + n) (suc rows) (omega arith)))
    (split (ltb n rows))

module _ {A : Type 0} (p : A → Bool) where
  first-place : (i : ℕ) (xs : List A) → first_from p i xs ≡ place i (position_or_len p xs) (length xs)
  unfolding first_from pick
  first-place i [] = refl
  first-place i (x ∷ xs) = go (p x) (first-place (suc i) xs)
    where
      go : (b : Bool) → first_from p (suc i) xs ≡ place (suc i) (position_or_len p xs) (length xs)
          → pick b (Some i) (first_from p (suc i) xs) ≡ place i (cond (not b) (1 + position_or_len p xs) 0) (suc (length xs))
      go true e = rw (lt-ltb 0 (suc (length xs)) (omega arith)) (ap (λ (m : ℕ). Some m) (omega arith))
      go false e = e ∙ place-next i (position_or_len p xs) (length xs)

  -- after `position`
  pub by_position : (r : Option ℕ) (xs : List A) → r ≡ position p xs → r ≡ first p xs
  by_position r xs e =
      let n = position_or_len p xs in
      e ∙ ap (λ (m : ℕ). cond (ltb n (length xs)) (Some m) None) (omega arith) ∙ sym (first-place 0 xs)

  found_from : (i : ℕ) (xs : List A) → found (first_from p i xs) ≡ list_any p xs
  unfolding first_from pick found
  found_from i [] = refl
  found_from i (x ∷ xs) = go (p x) (found_from (suc i) xs)
    where
      go : (b : Bool) → found (first_from p (suc i) xs) ≡ list_any p xs → found (pick b (Some i) (first_from p (suc i) xs)) ≡ (b || list_any p xs)
      go true e = refl
      go false e = e

  -- after `any`
  pub by_any : (r : Bool) (xs : List A) → r ≡ list_any p xs → r ≡ found (first p xs)
  by_any r xs e = e ∙ sym (found_from 0 xs)

  find_from : (d : A) (i : ℕ) (xs : List A) (row : ℕ → A) → ((k : ℕ) → k < length xs → row (i + k) ≡ get_or xs k d)
      → find p xs ≡ option_map row (first_from p i xs)
  unfolding first_from pick
  find_from d i [] row h = refl
  find_from d i (x ∷ xs) row h = go (p x) (find_from d (suc i) xs row (λ k q. ap row (omega arith) ∙ h (suc k) (omega arith)))
    where
      go : (b : Bool) → find p xs ≡ option_map row (first_from p (suc i) xs)
          → cond b (Some x) (find p xs) ≡ option_map row (pick b (Some i) (first_from p (suc i) xs))
      go true e = ap Some (sym (ap row (omega arith) ∙ h 0 (omega arith)))
      go false e = e

  -- after `find`: the row at the place found, whatever is read past the last
  pub by_find : (d : A) (r : Option A) (xs : List A) → r ≡ find p xs → r ≡ option_map (λ i. get_or xs i d) (first p xs)
  by_find d r xs e = e ∙ find_from d 0 xs (λ i. get_or xs i d) (λ k h. ap (λ (i : ℕ). get_or xs i d) (omega arith))

pub ruleset positions = (by_position, by_any)
