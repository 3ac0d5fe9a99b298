-- Two outcomes that meet the promise of a batch are equal: both were refused, or both are the one batch.
use Prim.Native.Nat.{ℕ}
use native.Mathlib.Omega.{arith}
use mathlib.Core.Path.{◌≡◌, sym, ap, ◌∙◌}
use mathlib.Core.List.{List}
use Rattle.shelves.specs.declared.Shelf.{Shelf}
use Rattle.tables.specs.declared.State.{State}
use Rattle.batch.specs.declared.Batch.{Batch}
use Rattle.batch.proofs.Determined.{determined as one_batch}
use Rattle.exports.specs.Exports.{progress_of, Progressed, beyond, within}
use Rattle.exports.specs.declared.Progress.{Progress}

pub record Equal (t t' : State) (r r' : Progress) (new new' : List ℕ) : Type 0 where
  pub state : t ≡ t'
  pub progress : r ≡ r'
  pub buffer : new ≡ new'

module _ (s : State) (shelf : Shelf) (first : ℕ) (input old : List ℕ) (t t' : State) (r r' : Progress) (new new' : List ℕ) where
  pub determined : Progressed s shelf first input old t r new → Progressed s shelf first input old t' r' new' → Equal t t' r r' new new'
  determined (beyond far is stays kept) (beyond far' is' stays' kept') =
      record { state = stays ∙ sym stays'; progress = is ∙ sym is'; buffer = kept ∙ sym kept' }
  determined (beyond far is stays kept) (within near' b' m' is') = absurd (omega (arith, far, near'))
  determined (within near b m is) (beyond far' is' stays' kept') = absurd (omega (arith, near, far'))
  determined (within near b m is) (within near' b' m' is') =
      let e = one_batch shelf input s 0 first t t' b b' old new new' m m' in
      record { state = e.state; progress = is ∙ ap (λ (x : Batch). progress_of x) e.batch ∙ sym is'; buffer = e.buffer }
