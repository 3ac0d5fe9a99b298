-- Before the first turn no octet is masked, and at each turn one more.
use Rattle.std.proofs.Common.{refl, arith}
use Rattle.hmac.specs.Hmac.{masked}
use Rattle.hmac.proofs.Laws.{mask-more}
use Rattle.hmac.proofs.masked.Goals as goal

pub loop-x-init : goal.loop-x-init
unfolding masked
loop-x-init c = refl

pub loop-x-preserved : goal.loop-x-preserved
loop-x-preserved c = mask-more c.args.v c.args.block c.loop-x.x-items c.loop-x.x-index (omega arith) c.loop-x.invariant
