-- The sum of the hash value before and the working variables after all rounds.
use Rattle.sha256_block.specs.Compress.{compress_of}
use Rattle.sha256_block.proofs.compress.Goals as goal

pub returns : goal.returns
unfolding compress_of
returns c = cc
