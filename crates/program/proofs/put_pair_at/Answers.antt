-- The higher digit, and then the lower.
use Rattle.program.proofs.Lines.{pair_put}
use borrow.Author.Rules.{rules}
use Rattle.program.proofs.put_pair_at.Goals as goal

pub returns : goal.returns
returns c = search (pair_put, rules)
