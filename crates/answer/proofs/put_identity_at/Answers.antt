-- A name as a text, or the empty text.
use Rattle.answer.specs.Answer.{identity_by}
use Rattle.flow.specs.Front.{◌▹◌}
use Rattle.line.specs.Number.{encode_in}
use Rattle.flow.specs.Choice.{pick}
use Rattle.answer.proofs.put_identity_at.Goals as goal

pub returns-in-None-clause-put : goal.returns-in-None-clause-put
unfolding identity_by ◌▹◌ encode_in pick
returns-in-None-clause-put c = rw c.in-None.is c.put_octet_at.ensures
