-- One turn: the event that was answered and its line go on the run of those before; and each way in which it ends.
use Prim.Native.Nat.{◌≤◌, ◌-◌, ◌+◌}
use mathlib.Core.Path.{refl, sym, ap, ◌∙◌}
use Rattle.std.specs.Prelude.{Result, Err}
use lib.ListN.{length}
use native.Mathlib.Omega.{arith}
use Rattle.limits.specs.Limits.{ROOM, LINE}
use Rattle.line.specs.declared.Span.{Span}
use Rattle.program.specs.declared.Stop.{Stop}
use Rattle.program.proofs.Laws.{framed}
use Rattle.batch.proofs.Laws.{reply-within, running_none, running_more, served-more, served_full, served-bad}
use Rattle.batch.proofs.serve.Goals as goal

abbrev stop : Stop → Result Span Stop
stop e = Err e

pub loop-out-init : goal.loop-out-init
loop-out-init c = (running_none _ _ _ _ _ _ c.requires.0, refl)

pub of-requires : goal.of-requires
of-requires c = let f = framed _ _ _ (sym c.in-Ok.ensures) in (omega (arith, f.body.least), f.body.inside)

pub tell-requires : goal.tell-requires
tell-requires c =
    let l = c.event-answered.auto.out in
    let k = c.loop-out.invariant.0 in
    (omega (arith, c.loop-out-test.true, k.fits, k.long), reply-within _ _ _ _ _ c.event-answered.ensures l, omega (arith, l))

pub overflow_add-batch : goal.overflow_add-batch
overflow_add-batch c =
    let f = framed _ _ _ (sym c.in-Ok.ensures) in
    let k = c.loop-out.invariant.0 in
    omega (arith, k.far, k.inside, c.requires.0, c.requires.1, f.after.later, f.after.inside)

pub loop-out-smaller : goal.loop-out-smaller
loop-out-smaller c = let f = framed _ _ _ (sym c.in-Ok.ensures) in omega (arith, f.after.later, f.after.inside)

pub loop-out-preserved : goal.loop-out-preserved
loop-out-preserved c = (
  running_more _ _ _ _ _ _ _ _ _ _ _ c.loop-out.invariant.0 _ _ _ _ _ _ _ c.loop-out-test.true (sym c.in-Ok.ensures)
      (rw (c.held.ensures, c.of.ensures) at c.event-answered.ensures) c.tell.ensures c.tell.auto.out,
  c.loop-out.invariant.1,
)

pub returns-in-Err-More : goal.returns-in-Err-More
returns-in-Err-More c = served-more _ _ _ _ _ _ _ _ _ _ _ c.loop-out.invariant.0 (sym c.in-Err-More.ensures ∙ ap stop c.in-Err-More.field-0-is) c.loop-out-test.true

pub returns-in-Err-Bad : goal.returns-in-Err-Bad
returns-in-Err-Bad c = served-bad _ _ _ _ _ _ _ _ _ _ _ c.loop-out.invariant.0 _ _ (sym c.in-Err-Bad.ensures ∙ ap stop c.in-Err-Bad.field-0-is) c.loop-out-test.true c.put_bad.ensures

pub returns : goal.returns
returns c = served_full _ _ _ _ _ _ _ _ _ _ _ c.loop-out.invariant.0 _ c.loop-out.invariant.1 c.loop-out-test.false
