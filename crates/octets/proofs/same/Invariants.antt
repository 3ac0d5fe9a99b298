-- What is known so far, and what the rest says.
use Rattle.octets.proofs.Laws.{Left}
use Rattle.octets.proofs.same.Given as goal

abbrev pub invariant-loop-x : goal.invariant-loop-x
invariant-loop-x l = Left l.a l.b l.alike l.x-iterator.a.rest.now l.x-iterator.b.rest.now
