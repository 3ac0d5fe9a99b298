-- Three fields, each after the one before: the letters, "@", the domain.
-- the domain has room after the letters and "@"
use Prim.Native.Nat.{◌+◌, ◌≤◌}
use native.Mathlib.Omega.{arith}
use lib.ListN.{length, length-set}
use Rattle.flow.proofs.Fronts.{octet-put, next-put}
use Rattle.btid.proofs.Laws.{btid_size}
use Rattle.btid.specs.Btid.{btid}
use Rattle.btid.proofs.put_btid.Goals as goal
use Rattle.btid.proofs.put_btid.Goals.{After-put_base64-at}

letters-end : (k : After-put_base64-at)
    → k.put_base64-at.result + 1 + length k.args.domain.now ≤ length k.put_base64-at.new.out
letters-end k =
    let z = k in
    omega (arith, k.put_base64-at.ensures.count, k.put_base64-at.auto.out, btid_size z.args.rand.now z.args.domain.now)

pub put_base64-at-requires : goal.put_base64-at-requires
put_base64-at-requires c =
    omega (arith, btid_size c.args.rand.now c.args.domain.now)

pub bounds-out-at : goal.bounds-out-at
bounds-out-at c = omega (arith, letters-end (goal.at.bounds-out-at c).After-put_base64-at)

pub overflow_add-next : goal.overflow_add-next
overflow_add-next c = omega (arith, letters-end (goal.at.overflow_add-next c).After-put_base64-at)

pub returns : goal.returns
unfolding btid
returns c =
    next-put _ _ _ _ _ _ _ c.put_octets_at.ensures
    (next-put _ _ _ _ _ _ _ (octet-put _ _ _ (omega (arith, letters-end (goal.at.returns c).After-put_base64-at))) c.put_base64-at.ensures)

pub put_octets_at-requires : goal.put_octets_at-requires
put_octets_at-requires c = simp length-set (omega (arith, letters-end (goal.at.put_octets_at-requires c).After-put_base64-at))
