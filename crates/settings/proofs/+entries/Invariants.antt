-- How many entries may be left.
use Rattle.settings.proofs.+entries.Given as goal

abbrev pub decreases-entries : goal.decreases-entries
decreases-entries l = l.n
