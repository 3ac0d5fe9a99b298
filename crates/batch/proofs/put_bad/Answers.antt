-- The line is written at the front of the lent end.
use mathlib.Core.List.{[]}
use Rattle.program.proofs.Lines.{line-long}
use native.Mathlib.Omega.{arith}
use Rattle.batch.proofs.put_bad.Goals as goal

pub overflow_add-result : goal.overflow_add-result
overflow_add-result c = omega (arith, c.put_line.ensures.count, line-long c.args.place c.into.result [])
