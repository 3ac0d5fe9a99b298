-- The sum of 6.2.2, read from the array.
use Rattle.sha256_block.specs.Compress.{mixed}
use Rattle.sha256_block.proofs.next.Goals as goal

pub returns : goal.returns
unfolding mixed
returns c = cc
