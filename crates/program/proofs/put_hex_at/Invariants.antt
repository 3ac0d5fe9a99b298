-- The invariant: the octets passed stand in hex up to the next place.
use Rattle.program.proofs.Lines.{Hexed}
use Rattle.program.proofs.put_hex_at.Given as goal

abbrev pub invariant-loop-b : goal.invariant-loop-b
invariant-loop-b l = Hexed l.s l.at l.b-index l.next l.initial.out l.out
