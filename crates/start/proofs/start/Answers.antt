-- Each refusal is a line of the rule; what is answered stands in the buffer, and the run in its place.
use Prim.Native.Nat.{◌+◌}
use mathlib.Core.Path.{ap, ◌∙◌}
use Rattle.limits.specs.Limits.{WORD}
use Rattle.flow.proofs.Chains.{passes_found}
use Rattle.names.specs.declared.Name.{Name}
use Rattle.records.specs.Rows.{started_run}
use Rattle.tables.specs.State.{started}
use Rattle.answer.specs.Answer.{encode_of}
use Rattle.outcome.proofs.Laws.{rules, left_answered, passes_below}
use Rattle.rules.specs.Start.{start_rule, opens}
use Rattle.start.proofs.start.Goals as goal

pub returns-then-state-ge-WORD : goal.returns-then-state-ge-WORD
unfolding start_rule
returns-then-state-ge-WORD c = search rules

pub returns-in_default : goal.returns-in_default
unfolding start_rule
returns-in_default c = search rules

pub returns : goal.returns
unfolding start_rule opens encode_of
returns c =
    let s = c.args.state.now in
    let run = c.started-run.ensures ∙ ap (λ (m : Name). started_run (s.last + 1) c.args.time m c.offered_to-copy.result) c.of.ensures in
    left_answered _ _ _ _ _ _ _ _ c.put_opened-len.ensures (c.start.ensures ∙ ap (started s c.args.time c.in-Some.place) run)
    (passes_below _ _ _ WORD _ c.if-state-ge-WORD.false (passes_found _ _ _ _ c.free.ensures _ c.in-Some.place c.in-Some.is
    (ap (opens s c.args.time c.in-Some.place c.args.impi.now) c.offered_to-copy.ensures)))
