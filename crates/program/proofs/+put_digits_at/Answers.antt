-- The digits before the last are put first; the measure is how many may still stand before the last.
use lib.ListN.{length}
use Prim.Native.Nat.{◌+◌, ◌≤◌}
use Rattle.program.proofs.Lines.{last-room, last-put, more_digits, fewer, before-room, after-room, more-put}
use borrow.Author.Rules.{rules}
use native.Mathlib.Omega.{arith}
use Rattle.program.proofs.+put_digits_at.Goals as goal

pub put_octet_at-requires : goal.put_octet_at-requires
put_octet_at-requires t c = search (last-room, rules)

pub returns-then-n-lt10 : goal.returns-then-n-lt10
returns-then-n-lt10 t c = search (last-put, rules)

pub put_digits_at-next-requires : goal.put_digits_at-next-requires
put_digits_at-next-requires t c =
    let h : 1 ≤ c.args.k = search (more_digits, rules) in
    (omega arith, (search (fewer, rules), search (before-room, rules)))

pub put_octet_at-requires-2 : goal.put_octet_at-requires-2
put_octet_at-requires-2 t c =
    let h : c.put_digits_at-next.result + 1 ≤ length c.args.out.now = search (after-room, rules) in
    omega arith

pub returns : goal.returns
returns t c = search (more-put, rules)
