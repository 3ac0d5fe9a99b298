-- The measure: how many octets the number may still have.
use Rattle.program.proofs.+cut_in.Given as goal

abbrev pub decreases-cut_in : goal.decreases-cut_in
decreases-cut_in l = l.k
