-- A line with no answer is shorter than its buffer.
use mathlib.Core.Path.{sym}
use native.Mathlib.Omega.{arith}
use lib.Seq.{length-take-le}
use Rattle.keyserver.proofs.Laws.{bare-line}
use Rattle.keyserver.proofs.print_refused.Goals as goal

pub slice_bounds-line-end : goal.slice_bounds-line-end
slice_bounds-line-end c =
    let h = bare-line _ _ _ _ _ c.put_line-len.ensures in
    omega arith

pub slice_bounds-write_all-end : goal.slice_bounds-write_all-end
slice_bounds-write_all-end c =
    let h = bare-line _ _ _ _ _ c.put_line-len.ensures in
    sym (length-take-le _ _ (omega arith))
