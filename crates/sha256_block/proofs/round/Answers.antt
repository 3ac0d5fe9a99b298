-- The words are those of 6.2.2, one for one.
use Rattle.sha256_block.specs.Compress.{round_of, T1, T2}
use Rattle.sha256_block.proofs.round.Goals as goal

pub returns : goal.returns
unfolding round_of T1 T2
returns c = cc
