-- Nothing is brought where settings are to be as before, else what was given.
use mathlib.Core.Path.{refl, ap, ◌∙◌}
use Rattle.std.proofs.Common.{Some}
use Rattle.vector.specs.Turns.{brought_of}
use Rattle.dispatch.proofs.Laws.{brings}
use Rattle.dispatch.proofs.brought.Goals as goal

pub returns-in-AsBefore : goal.returns-in-AsBefore
unfolding brought_of
returns-in-AsBefore c = rw c.in-AsBefore.is refl

pub returns-in_default : goal.returns-in_default
returns-in_default c = ap Some c.settings_of.ensures ∙ brings _ _ c.in_default.not-AsBefore
