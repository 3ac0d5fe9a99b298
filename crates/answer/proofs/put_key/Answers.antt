-- Each field is put after the one before.
use Rattle.answer.proofs.Laws.{fields}
use Rattle.answer.proofs.put_key.Goals as goal

pub returns : goal.returns
returns c = search fields
