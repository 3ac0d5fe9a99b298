-- The code reads the table's fields in the table's order.
use Rattle.format.proofs.Tabled.{tabled, standing}
use borrow.Author.Rules.{rules}
use Rattle.event.specs.Table.{KEY}
use Rattle.event.proofs.read_key.Goals as goal

pub returns : goal.returns
unfolding KEY
returns c =
    search (tabled, standing, rules, c.in_ok-peer.ensures, c.in_ok-btid.ensures, c.in_ok-naf.ensures, c.in_ok-application.ensures) depth 12
