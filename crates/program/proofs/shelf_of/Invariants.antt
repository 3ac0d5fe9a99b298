-- The invariant: i rows have been read and are held, and the rows from here on are left.
use Rattle.program.proofs.Filling.{Filling}
use Rattle.program.proofs.shelf_of.Given as goal

abbrev pub invariant-loop-i : goal.invariant-loop-i
invariant-loop-i l = Filling l.s l.count l.at l.rows l.next l.i
