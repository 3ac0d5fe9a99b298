-- Each field is put after the one before.
use Rattle.answer.proofs.Laws.{fields}
use Rattle.answer.proofs.put_session.Goals as goal

pub returns-clause-wrote : goal.returns-clause-wrote
returns-clause-wrote c = search fields
