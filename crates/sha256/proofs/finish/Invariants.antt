-- The whole blocks of m are taken first; after that, whatever value x they started from, the hash value is that after i blocks.
use mathlib.Core.Path.{◌≡◌}
use mathlib.Core.List.{◌++◌}
use Rattle.blocks.specs.Blocks.{padding, blocks}
use Rattle.blocks.specs.declared.Order.TheVariants.{HighFirst}
use Rattle.sha256_block.specs.Compress.{compress_of}
use Rattle.sha256_block.specs.declared.Hash.{Hash}
use Rattle.sha256.proofs.finish.Given as goal

abbrev pub invariant-loop-i : goal.invariant-loop-i
invariant-loop-i l =
    (x : Hash) → l.initial.s ≡ blocks compress_of x (l.m ++ padding HighFirst l.n) l.initial.i → l.s ≡ blocks compress_of x (l.m ++ padding HighFirst l.n) l.i
