-- A text that starts otherwise is another's.
use Rattle.std.proofs.Common.{rules}
use Rattle.key.proofs.Laws.{starts_otherwise}
use Rattle.key.proofs.starts.Goals as goal

pub returns-then-six-rand-clause-apart : goal.returns-then-six-rand-clause-apart
returns-then-six-rand-clause-apart c = starts_otherwise _ _ c.told-rand (c.fits-rand 0) (c.fits-rand 1) _ (search rules)

pub returns-else-six-rand-clause-apart : goal.returns-else-six-rand-clause-apart
returns-else-six-rand-clause-apart c = starts_otherwise _ _ c.told-rand (c.fits-rand 0) (c.fits-rand 1) _ (search rules)
