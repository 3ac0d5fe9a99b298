-- The front of the string was copied, and the rest was filled with zeros.
use mathlib.Core.Path.{refl}
use Rattle.octets.proofs.Laws.{padded-written}
use Rattle.octets.proofs.pad.Goals as goal

pub returns : goal.returns
returns c = padded-written _ _ _ _ _ _ refl c.min-n.ensures c.copy_from_slice.ensures.after (c.fill.ensures.after (λ y e. e))
