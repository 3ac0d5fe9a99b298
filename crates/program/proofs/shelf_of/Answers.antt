-- The invariant: i rows have been read and are held, and the rows from here on are left.
use native.Mathlib.Omega.{arith}
use native.Mathlib.Nat.{min-le_left, min-le_right}
use Rattle.program.proofs.Filling.{filling_none, filling_more, filling_done}
use Rattle.program.proofs.shelf_of.Goals as goal

pub loop-i-init : goal.loop-i-init
loop-i-init c = filling_none _ _ _ _ c.none-rows.ensures

pub loop-i-preserved : goal.loop-i-preserved
loop-i-preserved c = filling_more _ _ _ _ _ _ c.loop-i.invariant _ (omega (arith, min-le_left)) (omega (arith, min-le_right)) c.place-placed.ensures

pub returns : goal.returns
returns c = filling_done _ _ _ _ _ _ c.loop-i.invariant (omega arith)
