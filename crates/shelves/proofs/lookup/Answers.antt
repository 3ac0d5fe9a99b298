-- The search is the definition's.
use Rattle.std.proofs.Common.{rules, tests}
use Rattle.std.proofs.lemmas.Iterator.{YieldsList-from_slice}
use Rattle.std.proofs.lemmas.Iterator.Search.{find_from_yields_List}
use Rattle.shelves.specs.Shelf.{is_row}
use Rattle.shelves.proofs.Laws.{policy-first}
use Rattle.shelves.proofs.lookup.Goals as goal

pub returns-clause-row : goal.returns-clause-row
returns-clause-row c =
    find_from_yields_List (is_row c.args.peer.now c.args.fqdn.now) _ _ _ c.find.ensures.ran (YieldsList-from_slice c.args.rows.now cc) (λ x b q k. search (rules, tests))

pub returns-clause-says : goal.returns-clause-says
returns-clause-says c = policy-first _ _ _ _ (returns-clause-row c)
