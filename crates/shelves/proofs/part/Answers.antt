-- The ends are brought within the body, and the part is the same.
use Rattle.shelves.proofs.Laws.{part-within}
use Rattle.shelves.proofs.part.Goals as goal

pub returns : goal.returns
returns c = part-within _ _ _ _ c.min-end.ensures c.min-start.ensures
