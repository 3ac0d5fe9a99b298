-- Nothing is wanted, or the entry is not found, or it is.
use mathlib.Core.Path.{ap, ◌∙◌}
use Rattle.std.proofs.Common.{Some}
use Rattle.answer.specs.Answer.{wanted_by}
use Rattle.records.specs.declared.Entry.{Entry}
use Rattle.key.proofs.Laws.{wants_none, wants-missing, wants-found}
use Rattle.key.proofs.wanting.Goals as goal

pub returns-then-application-eq0 : goal.returns-then-application-eq0
returns-then-application-eq0 c = wants_none _ _ _ c.if-application-eq0.true

pub returns-in_err-place : goal.returns-in_err-place
returns-in_err-place c = ap wanted_by c.from_residual.ensures ∙ wants-missing _ _ _ c.if-application-eq0.false c.in_err-place.ensures

pub returns : goal.returns
returns c = ap (λ (e : Entry). wanted_by (Some e)) c.at.ensures ∙ wants-found _ _ _ c.if-application-eq0.false _ c.in_ok-place.ensures
