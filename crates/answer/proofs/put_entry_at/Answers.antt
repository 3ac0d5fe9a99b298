-- Each field is put after the one before; the part of the array that the length cuts off is the user name.
use mathlib.Core.Path.{ap}
use native.Mathlib.Omega.{arith}
use borrow.Author.Rules.{rules}
use Rattle.limits.specs.Limits.{USER}
use Rattle.flow.proofs.Fronts.{then_put, put_as}
use Rattle.line.specs.Text.{text_octets}
use Rattle.octets.proofs.Laws.{cut-octets}
use Rattle.answer.proofs.put_entry_at.Goals as goal

pub returns : goal.returns
returns c =
    let e = cut-octets c.args.entry.now.len USER _ c.args.entry.now.user (search rules) c.min-n.ensures in
    let h = c.requires in
    then_put _ _ _ _ _ _ _ _ (omega arith)
    (then_put _ _ _ _ _ _ _ _ (omega arith) c.put_octet_at-a.ensures c.put_octets_at-b.ensures)
    (put_as _ _ _ _ _ _ (ap text_octets e) c.put_text_at.ensures)
