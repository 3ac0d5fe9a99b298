-- How many octets may be left.
use Rattle.line.proofs.+groups.Given as goal

abbrev pub decreases-groups : goal.decreases-groups
decreases-groups l = l.k
