-- The events that have arrived are answered the same whatever arrives after them: each body lies in the input so far.
use Prim.Native.Nat.{ℕ, ◌+◌}
use native.Mathlib.Omega.{arith}
use mathlib.Core.Path.{◌≡◌, sym, ap, subst, ◌∙◌}
use mathlib.Core.List.{List, ◌++◌}
use Rattle.std.specs.Prelude.{Result, Ok, Err}
use Rattle.line.specs.declared.Span.{Span}
use Rattle.flow.specs.Front.{◌▹◌}
use Rattle.shelves.specs.declared.Shelf.{Shelf}
use Rattle.tables.specs.declared.State.{State}
use Rattle.program.specs.Frame.{frame_at}
use Rattle.program.specs.declared.Stop.{Stop}
use Rattle.program.specs.declared.Stop.TheVariants.{More, Bad}
use Rattle.program.proofs.Laws.{framed}
use Rattle.program.proofs.Arrived.{between-kept, frame_kept}
use Rattle.batch.specs.Batch.{next_of, event_line, Ran, none, one}

unfoldable is_more : Result Span Stop → ℕ
is_more (Ok x) = 0
is_more (Err More) = 1
is_more (Err Bad) = 0

module _ (input more : List ℕ) where
  body_kept : (at : ℕ) (x : Span) → frame_at input at ≡ Ok x → frame_at (input ++ more) at ≡ Ok x
  unfolding is_more
  body_kept at x e = frame_kept input more at (λ m. let z : ◌≡◌ {A = ℕ} 1 0 = ap is_more (sym m ∙ e) in omega arith) ∙ e

  pub ran-kept : {shelf : Shelf} {room : ℕ} {s : State} {from first : ℕ} {lines : List ℕ} {t : State} {at place : ℕ}
      → Ran shelf input room s from first lines t at place → Ran shelf (input ++ more) room s from first lines t at place
  ran-kept none = none
  ran-kept {shelf = shelf} {room = room} {s = s} {from = from} {first = first} (one {lines = lines} {t = t} {at = at} {place = place} x r fits body) =
      let f = framed input at x body in
      let b = between-kept input more x.start x.end (omega (arith, f.body.least)) f.body.inside in
      subst (λ y. Ran shelf (input ++ more) room s from first (lines ▹ event_line place t shelf y) (next_of t shelf y) x.end (place + 1)) b (one x (ran-kept r) fits (body_kept at x body))
