-- Each field is put after the one before; a number takes DIGITS digits at the most.
use Rattle.flow.proofs.Fronts.{first-put, next-put}
use Rattle.program.proofs.Lines.{decimal-fits, decimal_ends, shown_ends}
use native.Mathlib.Omega.{arith}
use Rattle.program.proofs.put_line.Goals as goal

pub put_decimal_at-a-requires : goal.put_decimal_at-a-requires
put_decimal_at-a-requires c = decimal-fits _ _ _ (omega arith)

pub put_octet_at-b-requires : goal.put_octet_at-b-requires
put_octet_at-b-requires c = omega (arith, decimal_ends)

pub put_decimal_at-c-requires : goal.put_decimal_at-c-requires
put_decimal_at-c-requires c = decimal-fits _ _ _ (omega (arith, decimal_ends))

pub put_octet_at-d-requires : goal.put_octet_at-d-requires
put_octet_at-d-requires c = omega (arith, decimal_ends)

pub put_shown_at-e-requires : goal.put_shown_at-e-requires
put_shown_at-e-requires c = omega (arith, decimal_ends)

pub put_octet_at-requires : goal.put_octet_at-requires
put_octet_at-requires c = omega (arith, decimal_ends, shown_ends)

pub returns : goal.returns
returns c =
    rw c.from.ensures at (
    next-put _ _ _ _ _ _ _ c.put_octet_at.ensures
    (next-put _ _ _ _ _ _ _ c.put_shown_at-e.ensures
    (next-put _ _ _ _ _ _ _ c.put_octet_at-d.ensures
    (next-put _ _ _ _ _ _ _ c.put_decimal_at-c.ensures
    (next-put _ _ _ _ _ _ _ c.put_octet_at-b.ensures
    (first-put _ _ _ _ c.put_decimal_at-a.ensures)))))
    )
