-- The invariant: the octets passed stand in hex up to the next place.
use native.Mathlib.Omega.{arith}
use Rattle.program.proofs.Lines.{hexed_none, hexed_room, hexed_more, hexed_all}
use borrow.Author.Rules.{rules}
use Rattle.program.proofs.put_hex_at.Goals as goal

pub loop-b-init : goal.loop-b-init
loop-b-init c = hexed_none _ _ _

pub put_pair_at-next-requires : goal.put_pair_at-next-requires
put_pair_at-next-requires c = hexed_room _ _ _ _ _ _ c.loop-b.invariant c.requires (omega arith)

pub loop-b-preserved : goal.loop-b-preserved
loop-b-preserved c =
    hexed_more _ _ _ _ _ _ c.loop-b.invariant _ _ c.requires (omega arith) (search rules) c.put_pair_at-next.ensures

pub returns : goal.returns
returns c = hexed_all _ _ _ _ _ _ c.loop-b.invariant (omega arith)
