-- Two fields that fill the array, one after the other.
use Rattle.challenge.proofs.Laws.{both_put}
use borrow.Author.Rules.{rules}
use Rattle.challenge.proofs.ks_of.Goals as goal

pub returns : goal.returns
returns c = search (both_put, rules)
