-- After t words, the array's first t are the schedule's.
use Rattle.std.proofs.Common.{◌≡◌, ◌≤◌, ◌%◌}
use Rattle.blocks.specs.Words.{word}
use Rattle.blocks.specs.Schedule.{WORDS, Scheduled}
use Rattle.sha256_block.specs.Compress.{ROUNDS, mixed}
use Rattle.sha256_block.proofs.schedule.Given as goal

abbrev pub invariant-loop-t : goal.invariant-loop-t
invariant-loop-t l = Scheduled ROUNDS (word l.b) mixed l.t l.w

abbrev pub invariant-loop-from : goal.invariant-loop-from
invariant-loop-from l = Scheduled ROUNDS (word l.b) mixed l.from l.w × (WORDS ≤ l.from) × (l.from ≤ ROUNDS) × (l.from % 8 ≡ 0)

abbrev pub invariant-loop-t-2 : goal.invariant-loop-t-2
invariant-loop-t-2 l = Scheduled ROUNDS (word l.b) mixed l.t l.w
