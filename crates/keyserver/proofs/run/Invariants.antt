-- What is held lies within the buffer, and the next event starts within what is held.
use Rattle.std.proofs.Common.{◌≤◌, length}
use Rattle.keyserver.proofs.run.Given as goal

abbrev pub invariant-loop : goal.invariant-loop
invariant-loop l = (l.at ≤ l.held) × (l.held ≤ length l.input)
