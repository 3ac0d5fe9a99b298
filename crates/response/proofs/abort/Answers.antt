-- The octet stands in the buffer, and the run has ended.
use mathlib.Core.Path.{refl}
use Rattle.answer.specs.Answer.{encode_of, aborted}
use Rattle.outcome.proofs.Laws.{left_answered}
use Rattle.rules.specs.Response.{aborts}
use Rattle.response.proofs.abort.Goals as goal

pub returns : goal.returns
unfolding aborts encode_of
returns c = left_answered _ _ _ aborted _ _ _ _ c.put_kind-len.ensures c.end.ensures refl
