-- Each refusal is a line of the rule; then the run is found, and what comes for it decides.
use mathlib.Core.Path.{◌≡◌, refl}
use native.Mathlib.Omega.{arith}
use Rattle.std.proofs.Common.{Some, None}
use Rattle.std.proofs.lemmas.Result.{err_from_is_err_and}
use Rattle.flow.specs.declared.Refusal.TheVariants.{Stale}
use Rattle.flow.proofs.Chains.{stops_other, passes-equal, stops_missing, passes_found}
use Rattle.outcome.proofs.Laws.{left_refused, left_stage}
use Rattle.rules.specs.Server.{run_rule}
use Rattle.dispatch.proofs.on_run.Goals as goal

pub returns-then-v-state : goal.returns-then-v-state
unfolding run_rule
returns-then-v-state c = left_refused _ _ _ Stale (stops_other _ _ _ _ c.if-v-state.true)

pub returns-in_err-place : goal.returns-in_err-place
unfolding run_rule
returns-in_err-place c =
    let p = err_from_is_err_and c.from_residual.result c.from_residual.ensures.1 in
    let e : c.open.result ≡ None = grind arith in
    let n : c.in_err-place.field-0.0 ≡ Stale = grind arith in
    rw (p.1, p.2, n) (left_refused _ _ _ Stale (passes-equal _ _ _ _ _ c.if-v-state.false (stops_missing _ _ c.open.result _ c.open.ensures e)))

pub returns : goal.returns
unfolding run_rule
returns c =
    let e : c.open.result ≡ Some c.in_ok-place.place = grind arith in
    left_stage _ _ _ _ _ _ _ c.act.ensures (passes-equal _ _ _ _ _ c.if-v-state.false (passes_found _ _ c.open.result _ c.open.ensures _ _ e refl))
