-- The number stays below twice the power of ten that it has digits.
use Rattle.std.proofs.Common.{◌+◌, ◌*◌, ◌^◌, ◌≤◌}
use Rattle.vectors.proofs.number.Given as goal

abbrev pub invariant-loop-octet : goal.invariant-loop-octet
invariant-loop-octet l = l.number + 2 ≤ 2 * 10 ^ l.octet-index
