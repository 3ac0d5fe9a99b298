-- The length, and then the octets.
use Rattle.flow.proofs.Fronts.{then_put}
use native.Mathlib.Omega.{arith}
use Rattle.answer.proofs.put_text_at.Goals as goal

pub returns : goal.returns
returns c = then_put _ _ _ _ _ _ _ _ (let h = c.requires in omega arith) c.put_number_at-next.ensures c.put_octets_at.ensures
