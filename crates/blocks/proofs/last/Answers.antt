-- The padding goes up to the next whole block that has room for it, so the length either ends this block or is not in it.
use mathlib.Core.Path.{◌∙◌, ap}
use mathlib.Core.List.{List, ◌++◌}
use Prim.Native.Nat.{ℕ, ◌-◌, ◌*◌}
use native.Mathlib.Omega.{arith}
use lib.ListN.{take}
use Rattle.blocks.specs.Blocks.{BLOCK, LENGTH, length_in}
use Rattle.blocks.proofs.Padding.{length-all, block-before, block-end}
use Rattle.blocks.proofs.last.Goals as goal

pub marked-b-requires : goal.marked-b-requires
marked-b-requires c = let a = c.args in (omega arith, omega (arith, length-all a.order a.n a.m.now))

pub returns-then-at-m : goal.returns-then-at-m
returns-then-at-m c =
    let a = c.args in
    c.marked-b.ensures ∙ block-before a.order a.n a.m.now a.at (omega arith)

pub returns : goal.returns
returns c =
    let a = c.args in
    let m = c.marked-b.ensures in
    c.put_length.ensures ∙ ap (λ (b : List ℕ). take (BLOCK - LENGTH) b ++ length_in a.order (8 * a.n)) m
    ∙ block-end a.order a.n a.m.now a.at (omega (arith, length-all a.order a.n a.m.now))
