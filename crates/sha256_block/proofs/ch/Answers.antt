-- Ch, with one operation less.
use Rattle.std.proofs.Common.{arith}
use Rattle.blocks.proofs.Bits.{ch-fewer}
use Rattle.sha256_block.proofs.ch.Goals as goal

pub returns : goal.returns
returns c = ch-fewer c.args.x c.args.y c.args.z (omega arith) (omega arith) (omega arith)
