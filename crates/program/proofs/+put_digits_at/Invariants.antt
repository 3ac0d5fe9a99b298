-- The digits before the last are put first; the measure is how many may still stand before the last.
use Rattle.program.proofs.+put_digits_at.Given as goal

abbrev pub decreases-put_digits_at : goal.decreases-put_digits_at
decreases-put_digits_at l = l.k
