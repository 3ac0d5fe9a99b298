-- The invariant: the parameters so far stand in front, and the string is these and the parameters of the lengths and the run that are left.
use Rattle.kdf.proofs.Laws.{Going}
use Rattle.kdf.proofs.put_params.Given as goal

abbrev pub invariant-loop-n : goal.invariant-loop-n
invariant-loop-n l = Going l.run l.lens l.initial.out l.out l.n-index l.from l.at
