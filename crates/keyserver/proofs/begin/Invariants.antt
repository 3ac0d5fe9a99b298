-- What is held lies within the buffer, and grows at each turn.
use Prim.Native.Nat.{◌-◌, ◌≤◌}
use lib.ListN.{length}
use Rattle.keyserver.proofs.begin.Given as goal

abbrev pub invariant-loop-input : goal.invariant-loop-input
invariant-loop-input l = l.held ≤ length l.input

abbrev pub decreases-loop-input : goal.decreases-loop-input
decreases-loop-input l = length l.initial.input - l.held
