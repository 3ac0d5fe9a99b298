-- Each refusal is a line of the rule; then the event's kind decides.
use mathlib.Core.Path.{◌≡◌, refl, sym, ap, ◌∙◌}
use native.Mathlib.Omega.{arith}
use Rattle.std.proofs.Common.{Some, None}
use Rattle.std.proofs.lemmas.Result.{err_from_is_err_and}
use Rattle.flow.specs.declared.Refusal.TheVariants.{NotOpen, Short, Form, Clock}
use Rattle.flow.proofs.Chains.{stops_unset, passes-set, stops_below, passes-above}
use Rattle.event.specs.Meaning.{values_at, meaning}
use Rattle.event.specs.Table.{decoded}
use Rattle.outcome.proofs.Laws.{left_refused, left_stage}
use Rattle.rules.specs.Server.{rule, step_of}
use Rattle.server.proofs.answer.Goals as goal

pub returns-then-not-state : goal.returns-then-not-state
unfolding step_of
returns-then-not-state c = left_refused _ _ _ NotOpen (stops_unset _ _ _ c.if-not-state.true)

pub returns-then-out-lt-ROOM : goal.returns-then-out-lt-ROOM
unfolding step_of
returns-then-out-lt-ROOM c = left_refused _ _ _ Short (passes-set _ _ _ _ c.if-not-state.false (stops_below _ _ _ _ c.if-out-lt-ROOM.true))

pub returns-in_err-event : goal.returns-in_err-event
unfolding step_of rule
returns-in_err-event c =
    let p = err_from_is_err_and c.from_residual.result c.from_residual.ensures.1 in
    let e : c.args.event ≡ None = grind arith in
    let n : c.in_err-event.field-0.0 ≡ Form = grind arith in
    let d : decoded c.args.body.now ≡ None = sym c.requires.means ∙ ap (meaning c.args.body.now) e in
    rw (p.1, p.2, n, d) (left_refused _ _ _ Form (passes-set _ _ _ _ c.if-not-state.false (passes-above _ _ _ _ _ c.if-out-lt-ROOM.false refl)))

pub returns-then-event-state : goal.returns-then-event-state
unfolding step_of rule
returns-then-event-state c =
    let e : c.args.event ≡ Some c.in_ok-event.event = grind arith in
    let d : decoded c.args.body.now ≡ Some (values_at c.args.body.now c.in_ok-event.event) = sym c.requires.means ∙ ap (meaning c.args.body.now) e in
    rw d
    (left_refused _ _ _ Clock
    (passes-set _ _ _ _ c.if-not-state.false (passes-above _ _ _ _ _ c.if-out-lt-ROOM.false (stops_below _ _ _ _ c.if-event-state.true))))

pub returns : goal.returns
unfolding step_of rule
returns c =
    let e : c.args.event ≡ Some c.in_ok-event.event = grind arith in
    let d : decoded c.args.body.now ≡ Some (values_at c.args.body.now c.in_ok-event.event) = sym c.requires.means ∙ ap (meaning c.args.body.now) e in
    rw d
    (left_stage _ _ _ _ _ _ _ c.by_kind.ensures
    (passes-set _ _ _ _ c.if-not-state.false (passes-above _ _ _ _ _ c.if-out-lt-ROOM.false (passes-above _ _ _ _ _ c.if-event-state.false refl))))
