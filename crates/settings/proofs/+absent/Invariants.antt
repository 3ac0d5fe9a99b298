-- How many entries may be left.
use Rattle.settings.proofs.+absent.Given as goal

abbrev pub decreases-absent : goal.decreases-absent
decreases-absent l = l.n
