-- The row that counts says what the shelf table says.
use Rattle.outcome.proofs.Laws.{left_stage}
use Rattle.rules.specs.History.{event_of}
use Rattle.server.proofs.event.Goals as goal

pub returns : goal.returns
unfolding event_of
returns c = left_stage _ _ _ _ _ _ _ c.answer.ensures (c.row_for.ensures _ _)
