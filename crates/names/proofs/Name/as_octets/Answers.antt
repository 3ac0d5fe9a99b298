-- The part of the array that the name's length cuts off is the name's octets.
use native.Mathlib.Omega.{arith}
use borrow.Author.Rules.{rules}
use lib.ListN.{length-take}
use Rattle.names.proofs.Laws.{name-cut}
use Rattle.names.proofs.Name.as_octets.Goals as goal

pub returns : goal.returns
returns c =
    let k = length-take c.length.result c.args.self.now.octets in
    record { octets = name-cut _ (search rules) _ c.length.ensures; within = omega (arith, k, c.length.ensures) }
