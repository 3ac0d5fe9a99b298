-- The hash value is that after as many blocks as have come, and what is left of m is behind these.
use Rattle.std.proofs.Common.{◌≡◌, ◌*◌, length, drop}
use Rattle.std.specs.Iterator.Adapters.{take_source}
use Rattle.std.specs.Slice.Iter.{chunks_exact_rest, chunks_exact_size}
use Rattle.blocks.specs.Blocks.{BLOCK, blocks}
use Rattle.sha256_block.specs.Compress.{compress_of}
use Rattle.sha256_block.proofs.absorb.Given as goal

abbrev pub invariant-loop-b : goal.invariant-loop-b
invariant-loop-b l = record {
  size : chunks_exact_size (take_source l.b-iterator) ≡ BLOCK;
  left : chunks_exact_rest (take_source l.b-iterator) ≡ drop (BLOCK * length l.yielded) l.m;
  value : l.s ≡ blocks compress_of l.initial.s l.m (length l.yielded);
}
