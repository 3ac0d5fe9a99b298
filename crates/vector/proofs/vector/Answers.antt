-- Each refusal is a line of the rule; what is answered stands in the buffer, and the run in its place.
use mathlib.Core.Path.{ap, ◌∙◌}
use Rattle.flow.proofs.Chains.{stops, passes}
use Rattle.records.specs.Rows.{filled_run}
use Rattle.tables.specs.State.{filled}
use Rattle.answer.specs.Answer.{challenge, encode_of}
use Rattle.outcome.proofs.Laws.{rules, left_answered}
use Rattle.rules.specs.Vector.{challenges}
use Rattle.vector.proofs.Laws.{by_parts, uncopied, copied}
use Rattle.vector.proofs.vector.Goals as goal

pub returns-then-run : goal.returns-then-run
returns-then-run c = λ w p. rw (← c.at-run.ensures, ← by_parts _ _ _ _ _ _ _ _ w p) (search (rules, stops))

pub returns-then-not-is : goal.returns-then-not-is
returns-then-not-is c = λ w p. rw (← c.at-run.ensures, ← by_parts _ _ _ _ _ _ _ _ w p) (search (rules, passes))

pub returns-then-run-eq0 : goal.returns-then-run-eq0
returns-then-run-eq0 c = λ w p. rw (← c.at-run.ensures, ← by_parts _ _ _ _ _ _ _ _ w p) (search (rules, stops, passes, uncopied))

pub returns-then-rand_seen : goal.returns-then-rand_seen
returns-then-rand_seen c = λ w p. rw (← c.at-run.ensures, ← by_parts _ _ _ _ _ _ _ _ w p) (search (rules, stops, passes, copied, c.else-is_none.either))

pub returns : goal.returns
unfolding challenges encode_of
returns c =
    let s = c.args.state.now in
    let run = c.filled-filled.ensures ∙ ap (filled_run c.at-run.result _ _ _ _) c.unwrap_or-settings.ensures in
    let a = challenge c.args.challenge.now.rand c.args.challenge.now.autn in
    let e = c.fill.ensures ∙ ap (filled s c.args.time c.args.i) run in
    λ w p. rw (← c.at-run.ensures, ← by_parts _ _ _ _ _ _ _ _ w p)
    (left_answered s _ _ a _ _ _ _ c.put_challenge-len.ensures e (search (rules, passes, copied, c.else-is_none.either)))
