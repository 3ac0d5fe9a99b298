-- The octets that were passed are masked, and the others are as they were.
use Rattle.std.proofs.Common.{◌≡◌, take, drop, ◌++◌}
use Rattle.hmac.specs.Hmac.{masked}
use Rattle.hmac.proofs.masked.Given as goal

abbrev pub invariant-loop-x : goal.invariant-loop-x
invariant-loop-x l = l.x-items ≡ masked l.v (take l.x-index l.initial.x-items) ++ drop l.x-index l.initial.x-items
