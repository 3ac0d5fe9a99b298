-- The octet stands in the buffer, and the run has ended.
use mathlib.Core.Path.{refl}
use Rattle.answer.specs.Answer.{encode_of, wrong}
use Rattle.outcome.proofs.Laws.{left_answered}
use Rattle.rules.specs.Response.{fails}
use Rattle.response.proofs.fails.Goals as goal

pub returns : goal.returns
unfolding fails encode_of
returns c = left_answered _ _ _ wrong _ _ _ _ c.put_kind-len.ensures c.end.ensures refl
