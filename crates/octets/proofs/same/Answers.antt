-- Each two octets decide, and at the end nothing is left.
use mathlib.Core.Logic.{inl, inr, ⊎_elim}
use mathlib.Core.Path.{sym}
use Rattle.octets.proofs.Laws.{same_lengths, same_differs, same_agrees, same_end}
use Rattle.octets.proofs.same.Goals as goal

pub returns-then-a-b : goal.returns-then-a-b
returns-then-a-b c = sym (same_lengths _ _ c.if-a-b.true)

pub loop-x-preserved-then-x-y : goal.loop-x-preserved-then-x-y
loop-x-preserved-then-x-y c =
    same_differs _ _ _ _ _ _ _ _ _ c.loop-x.invariant c.in-Some.ensures.steps c.if-x-y.true

pub loop-x-preserved : goal.loop-x-preserved
loop-x-preserved c =
    same_agrees _ _ _ _ _ _ _ _ _ c.loop-x.invariant c.in-Some.ensures.steps c.if-x-y.false

pub returns : goal.returns
returns c =
    same_end _ _ _ _ _ c.loop-x.invariant (⊎_elim (λ e. inl e.1.0) (λ e. inr e.1.0) c.in-None.ensures.steps)
