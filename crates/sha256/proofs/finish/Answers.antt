-- The whole blocks of m are taken first; after that, whatever value x they started from, the hash value is that after i blocks.
use mathlib.Core.Path.{◌≡◌, ap, ◌∙◌}
use mathlib.Core.List.{◌++◌}
use Prim.Native.Nat.{◌+◌, ◌/◌}
use native.Mathlib.Omega.{arith}
use lib.ListN.{length}
use Rattle.blocks.specs.Blocks.{BLOCK, LENGTH, padding, blocks, all}
use Rattle.blocks.specs.declared.Order.TheVariants.{HighFirst}
use Rattle.blocks.proofs.Blocks.{one_more, blocks-front}
use Rattle.blocks.proofs.Padding.{room, count-is}
use Rattle.sha256_block.specs.Compress.{compress_of}
use Rattle.sha256.proofs.finish.Goals as goal

pub loop-i-preserved : goal.loop-i-preserved
loop-i-preserved c =
    let l = c.loop-i in
    λ x e. c.compress-s.ensures ∙ one_more compress_of x l.s _ _ l.i (l.invariant x e) c.last-b.ensures

pub returns : goal.returns
unfolding all
returns c =
    let l = c.loop-i in
    let m = c.args.m.now in
    let p = padding HighFirst (c.args.before + length m) in
    let e : l.i ≡ (length m + LENGTH) / BLOCK + 1 = omega arith in
    l.invariant c.args.x (c.absorb-s.ensures ∙ blocks-front compress_of c.args.x m p (length m / BLOCK) (omega arith))
    ∙ ap (blocks compress_of c.args.x (m ++ p)) (e ∙ count-is HighFirst m c.args.before c.requires.0)

pub last-b-requires-clause-m_len_bound : goal.last-b-requires-clause-m_len_bound
last-b-requires-clause-m_len_bound c =
    let e = room HighFirst c.args.m.now c.args.before c.requires.0 c.loop-i.i c.loop-i-test.true in
    (omega arith, e)
