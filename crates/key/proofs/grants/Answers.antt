-- The refusal is the rule's; then the answer stands in the buffer, and the state is as it was.
use mathlib.Core.Path.{refl}
use Rattle.flow.specs.declared.Refusal.TheVariants.{Policy}
use Rattle.flow.proofs.Chains.{stops_yes, passes-no}
use Rattle.outcome.proofs.Laws.{left_refused, left_answered}
use Rattle.rules.specs.Key.{grants}
use Rattle.key.proofs.Laws.{as-keyed, identity-shown}
use Rattle.key.proofs.grants.Goals as goal

pub returns-then-lacks : goal.returns-then-lacks
unfolding grants
returns-then-lacks c = λ s. left_refused s _ _ Policy (stops_yes _ _ _ _ c.lacks.ensures c.if-lacks.true)

pub returns : goal.returns
unfolding grants
returns c =
    let x = c.args.session.now in
    λ s.
    left_answered s _ _ _ s s _ _
    (as-keyed _ _ _ _ _ _ _ _ _ _ _ _ c.key_of-key.ensures (identity-shown _ _ _ c.then_some-shown.ensures) c.wanting-wanted.ensures c.put_key.ensures) refl
    (passes-no _ _ _ _ _ c.lacks.ensures c.if-lacks.false refl)
