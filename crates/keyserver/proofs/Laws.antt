-- What a line with no answer takes.
use Rattle.std.proofs.Common.{ℕ, ◌≤◌, List, [], arith}
use Rattle.flow.specs.Front.{Wrote}
use Rattle.program.specs.Printed.{line_of}
use Rattle.program.proofs.Lines.{line-long}

pub bare-line : (place number len : ℕ) (old new : List ℕ) → Wrote (line_of place number []) len old new → len ≤ 44
bare-line place number len old new w = omega (arith, w.count, line-long place number [])
