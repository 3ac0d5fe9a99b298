-- At the head of a turn the working variables are those after as many rounds.
use Rattle.std.proofs.Common.{◌≡◌, ◌≤◌, ◌%◌}
use Rattle.sha256_block.specs.Compress.{ROUNDS, rounds}
use Rattle.sha256_block.proofs.rounds.Given as goal

abbrev pub invariant-loop-from : goal.invariant-loop-from
invariant-loop-from l = (l.s ≡ rounds l.w l.initial.s l.from) × (l.from ≤ ROUNDS) × (l.from % 8 ≡ 0)

abbrev pub invariant-loop-t : goal.invariant-loop-t
invariant-loop-t l = l.s ≡ rounds l.w l.fn.x l.t
