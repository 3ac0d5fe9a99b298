-- The rule of the message schedule looks back two, seven, fifteen and sixteen words.
use Rattle.std.proofs.Common.{arith}
use Rattle.blocks.specs.Schedule.{Recent}
use Rattle.sha256_block.specs.Compress.{mixed}

pub mixed_recent : Recent mixed
unfolding mixed
mixed_recent f g e =
    rw (e 2 (omega arith) (omega arith), e 7 (omega arith) (omega arith), e 15 (omega arith) (omega arith), e 16 (omega arith) (omega arith))
