-- The last of the early returns.
use borrow.Author.Rules.{rules}
use Rattle.settings.proofs.Laws.{given-bad}
use Rattle.settings.proofs.given.Goals as goal

pub returns-in_err-end : goal.returns-in_err-end
returns-in_err-end c =
    rw c.from_residual-in_err-end.ensures
    (given-bad _ _ _ _ _ _ _ _ c.in_ok-lifetime.ensures (search rules) c.in_ok-timestamp.ensures c.in_ok-count.ensures c.in_err-end.ensures)
