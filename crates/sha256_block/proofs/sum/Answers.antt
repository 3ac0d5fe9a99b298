-- Word by word.
use Rattle.sha256_block.specs.Compress.{sum_of}
use Rattle.sha256_block.proofs.sum.Goals as goal

pub returns : goal.returns
unfolding sum_of
returns c = cc
