-- The refusal is a line of the rule; the last stages have their own proofs.
use Rattle.outcome.proofs.Laws.{rules}
use Rattle.rules.specs.Response.{concludes}
use Rattle.response.proofs.response.Goals as goal

pub returns-then-not-run : goal.returns-then-not-run
unfolding concludes
returns-then-not-run c = rw (← c.at-run.ensures) (search rules)

pub returns-then-is_right : goal.returns-then-is_right
unfolding concludes
returns-then-is_right c = rw (← c.at-run.ensures) (search rules)

pub returns-else-is_right : goal.returns-else-is_right
unfolding concludes
returns-else-is_right c = rw (← c.at-run.ensures) (search rules)
