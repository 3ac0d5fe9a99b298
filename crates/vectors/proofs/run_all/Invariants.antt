-- Each turn runs one vector at most, and may run the next.
use Rattle.std.proofs.Common.{◌≤◌}
use Rattle.vectors.proofs.run_all.Given as goal

abbrev pub invariant-loop-turn : goal.invariant-loop-turn
invariant-loop-turn g l = goal.F-IsAlwaysCallable g l.vector × (l.tally.run ≤ l._turn)
