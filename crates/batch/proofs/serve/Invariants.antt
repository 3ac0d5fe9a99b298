-- The events passed were answered one after another, their lines stand at the front, and the state is the one that they left.
use Rattle.std.proofs.Common.{◌≡◌, ◌-◌, length}
use Rattle.batch.specs.declared.Why.TheVariants.{Full}
use Rattle.batch.proofs.Laws.{Running}
use Rattle.batch.proofs.serve.Given as goal

abbrev pub invariant-loop-out : goal.invariant-loop-out
invariant-loop-out l =
    Running l.shelf l.input l.initial.state l.from l.first l.initial.out l.state l.batch.at l.batch.place l.batch.len l.out
    × (l.batch.why ≡ Full)

abbrev pub decreases-loop-out : goal.decreases-loop-out
decreases-loop-out l = length l.input - l.batch.at
