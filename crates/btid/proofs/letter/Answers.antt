-- Each test of the code is a choice, and the last that is taken counts.
use Prim.Native.Nat.{ℕ}
use mathlib.Core.Path.{◌≡◌, refl}
use lib.Dec.{eqb}
use Rattle.flow.specs.Choice.{pick}
use Rattle.flow.proofs.Choices.{by_le, by-gt, by-eq, by-ne}
use Rattle.btid.specs.Base64.{letter_of}
use Rattle.btid.proofs.Letters.{letter-chosen}
use Rattle.btid.proofs.letter.Goals as goal
use Rattle.btid.proofs.letter.Goals.{Joined-n-eq62, else-n-eq62, else-n-ge26, else-n-ge52, then-n-eq62, then-n-ge26, then-n-ge52}

chosen : (c : Joined-n-eq62) (r : ℕ) → r ≡ pick (eqb c.args.n 63) 0x2f c.if-n-eq62.r → r ≡ letter_of c.args.n
chosen c r =
    letter-chosen c.requires
    ((elim c.if-n-ge26.branch [ then-n-ge26 w ↦ by_le _ _ _ _ _ w.if-n-ge26.true w.r-is | else-n-ge26 w ↦ by-gt _ _ _ _ _ w.if-n-ge26.false w.r-is ]))
    ((elim c.if-n-ge52.branch [ then-n-ge52 w ↦ by_le _ _ _ _ _ w.if-n-ge52.true w.r-is | else-n-ge52 w ↦ by-gt _ _ _ _ _ w.if-n-ge52.false w.r-is ]))
    ((elim c.if-n-eq62.branch [ then-n-eq62 w ↦ by-eq _ _ _ _ _ w.if-n-eq62.true w.r-is | else-n-eq62 w ↦ by-ne _ _ _ _ _ w.if-n-eq62.false w.r-is ]))

pub returns-then-n-eq63 : goal.returns-then-n-eq63
returns-then-n-eq63 c = chosen (goal.at.returns-then-n-eq63 c).Joined-n-eq62 _ (by-eq _ _ _ _ _ c.if-n-eq63.true refl)

pub returns-else-n-eq63 : goal.returns-else-n-eq63
returns-else-n-eq63 c = chosen (goal.at.returns-else-n-eq63 c).Joined-n-eq62 _ (by-ne _ _ _ _ _ c.if-n-eq63.false refl)
