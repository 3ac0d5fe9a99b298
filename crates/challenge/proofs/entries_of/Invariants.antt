-- The invariant: i entries have been read and stored, and the rest stand from here on.
use Rattle.challenge.proofs.Laws.{Going}
use Rattle.challenge.proofs.entries_of.Given as goal

abbrev pub invariant-loop-i : goal.invariant-loop-i
invariant-loop-i l = Going l.body l.count l.first l.entries l.at l.i
