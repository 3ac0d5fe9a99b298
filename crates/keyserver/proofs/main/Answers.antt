-- The opening part ends within what is held.
use Rattle.std.proofs.Common.{◌≤◌, sym, arith, length, rules}
use lib.Seq.{length-take-le}
use Rattle.program.proofs.Ends.{whole_ends}
use Rattle.keyserver.proofs.main.Goals as goal

pub run-requires : goal.run-requires
run-requires c =
    let e = whole_ends _ _ (sym c.in-Ok.ensures) in
    let held : c.in_ok-held.held ≤ length c.begin.new.input = search rules in
    (omega (arith, e, length-take-le c.in_ok-held.held c.begin.new.input held), held, search rules)
