-- The invariant: i entries have been read and stored, and the rest stand from here on.
use Rattle.challenge.proofs.Laws.{going_some, going_done}
use borrow.Author.Rules.{rules}
use Rattle.challenge.proofs.entries_of.Goals as goal

pub unwrap-e-requires : goal.unwrap-e-requires
unwrap-e-requires c = search (going_some, rules)

pub returns : goal.returns
returns c = search (going_done, rules)
