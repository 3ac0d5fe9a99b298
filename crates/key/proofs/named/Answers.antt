-- The first place whose session passes the test.
use borrow.Author.Tests.{tests}
use Rattle.std.proofs.Common.{rules}
use Rattle.std.proofs.lemmas.Iterator.{YieldsList-from_slice}
use Rattle.std.proofs.lemmas.Iterator.Search.{position_from_yields_List}
use Rattle.flow.proofs.Positions.{by_position}
use Rattle.names.specs.Name.{name_octets}
use Rattle.tables.specs.Tables.{is_named}
use Rattle.key.proofs.named.Goals as goal

pub returns : goal.returns
returns c =
    let p = is_named c.args.text.now (name_octets c.args.domain.now) c.args.time in
    by_position p _ _
    (position_from_yields_List p _ _ _ c.position.ensures.ran (YieldsList-from_slice c.args.sessions.now cc) (λ x b q k. search (rules, tests)))
