-- The line is written at the front of the lent end.
use Prim.Native.Nat.{◌≤◌, ◌+◌}
use mathlib.Core.Path.{ap}
use lib.ListN.{length, take}
use lib.Seq.{length-take-le}
use Rattle.limits.specs.Limits.{ROOM, LINE}
use Rattle.flow.specs.declared.Reply.{Reply}
use Rattle.flow.proofs.Fronts.{end-put}
use Rattle.program.proofs.Lines.{line-long}
use native.Mathlib.Omega.{arith}
use Rattle.batch.specs.Batch.{Lined}
use Rattle.batch.proofs.tell.Goals as goal

within : (c : goal.After-slice_known-2-1) → c.from-reply.result.len ≤ length c.args.buffer.now
within c = omega (arith, ap (λ (r : Reply). r.len) c.from-reply.ensures, c.requires.1)

short : (c : goal.After-slice_known-2-1) → c.put_line.result ≤ LINE
short c =
    let r = c.from-reply.result in
    let b = c.args.buffer.now in
    let n : length b ≤ ROOM = c.requires.2 in
    omega (arith, n, within c, c.put_line.ensures.count, line-long c.args.place r.no (take r.len b), length-take-le r.len b (within c))

pub overflow_add-result : goal.overflow_add-result
overflow_add-result c = let n : c.args.at + LINE ≤ length c.args.out.now = c.requires.0 in omega (arith, n, short c)

pub returns : goal.returns
returns c =
    let w = c.put_line.ensures in
    let b = c.args.buffer.now in
    let lined : Lined c.args.place c.from-reply.result b c.args.at (c.args.at + c.put_line.result) c.args.out.now _ =
    record { line = end-put _ _ _ _ _ w; fits = omega (arith, short c) } in
    rw c.from-reply.ensures at lined
