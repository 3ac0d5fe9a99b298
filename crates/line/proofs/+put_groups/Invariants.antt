-- How many groups may still follow.
use Rattle.line.proofs.+put_groups.Given as goal

abbrev pub decreases-put_groups : goal.decreases-put_groups
decreases-put_groups l = l.k
