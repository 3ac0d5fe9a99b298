-- The measure: how many rows are left.
use Rattle.program.proofs.+read_rows.Given as goal

abbrev pub decreases-read_rows : goal.decreases-read_rows
decreases-read_rows l = l.n
