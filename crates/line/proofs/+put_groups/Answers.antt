-- The last group is one store.
use Rattle.line.proofs.Writing.{wrote-last}
use borrow.Author.Rules.{rules}
use Rattle.line.proofs.+put_groups.Goals as goal

pub returns-then-n-lt128 : goal.returns-then-n-lt128
returns-then-n-lt128 t c = search (wrote-last, rules)
