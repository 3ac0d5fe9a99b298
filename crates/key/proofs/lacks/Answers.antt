-- Nothing is required, or the search decides.
use mathlib.Core.Path.{ap, ◌∙◌}
use mathlib.Core.Bool.{not}
use borrow.Author.Tests.{eq-eqb}
use Rattle.key.proofs.Laws.{lacks-none, lacks-told}
use Rattle.key.proofs.lacks.Goals as goal

pub returns-then-row-ne0 : goal.returns-then-row-ne0
returns-then-row-ne0 c = lacks-told _ _ _ _ _ c.if-row-ne0.true c.from.ensures c.find.ensures c.is_none.ensures

pub returns-else-row-ne0 : goal.returns-else-row-ne0
returns-else-row-ne0 c = ap not (eq-eqb _ 0 c.if-row-ne0.false) ∙ lacks-none _ _ c.if-row-ne0.false
