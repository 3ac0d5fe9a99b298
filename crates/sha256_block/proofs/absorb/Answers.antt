-- Each block that comes is the next of m.
use Rattle.std.proofs.Common.{◌≡◌, ℕ, ◌+◌, ◌*◌, List, ◌++◌, take, drop, length, refl, sym, ap, ◌∙◌, arith}
use Rattle.std.proofs.lemmas.List.{take_at, drop_at, drop-drop, length_push}
use Rattle.blocks.specs.Blocks.{BLOCK, steps, block_of, blocks}
use Rattle.blocks.proofs.Blocks.{one_more}
use Rattle.sha256_block.specs.Compress.{compress_of}
use Rattle.sha256_block.proofs.absorb.Goals as goal

-- a block that stands at the front of what is left of m behind i blocks
module _ (m b rest : List ℕ) (i : ℕ) (left : b ++ rest ≡ drop (BLOCK * i) m) (size : length b ≡ BLOCK) where
  here : b ≡ block_of m i
  here = sym (take_at b rest BLOCK size) ∙ ap (take BLOCK) left

  behind : rest ≡ drop (BLOCK * (i + 1)) m
  behind =
      let e : BLOCK * i + BLOCK ≡ BLOCK * (i + 1) = omega arith in
      sym (drop_at b rest BLOCK size) ∙ ap (drop BLOCK) left ∙ drop-drop BLOCK (BLOCK * i) m ∙ ap (λ (n : ℕ). drop n m) e

pub loop-b-init : goal.loop-b-init
unfolding blocks steps
loop-b-init c = record { size = cc; left = cc; value = refl }

pub loop-b-preserved : goal.loop-b-preserved
loop-b-preserved c =
    let l = c.loop-b in
    let m = c.args.m.now in
    let i = length l.yielded in
    let h = c.in-Some.ensures.steps.0 in
    let split = sym h.1.0 ∙ l.invariant.left in
    let size = h.1.1 ∙ l.invariant.size in
    rw length_push
    record {
      size = h.0 ∙ l.invariant.size;
      left = behind m _ _ i split size;
      value = c.compress-s.ensures ∙ one_more compress_of _ _ _ _ _ l.invariant.value (here m _ _ i split size);
    }
