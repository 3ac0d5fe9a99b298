-- What the shelf table said is what a row says that was made of it, as far as the event's rule asks.
use mathlib.Core.Path.{◌∙◌}
use Rattle.outcome.proofs.Laws.{left_stage}
use Rattle.server.proofs.Laws.{heard}
use Rattle.server.proofs.step.Goals as goal

pub returns : goal.returns
returns c = left_stage _ _ _ _ _ _ _ c.answer.ensures (heard c.args.policy _ (c.as_ref.ensures.value ∙ c.row-row.ensures) _ _ _)
