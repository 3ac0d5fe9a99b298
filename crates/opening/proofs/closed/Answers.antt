-- Every field is zero, and every row free.
use Rattle.rules.specs.Opening.{closed}
use Rattle.tables.specs.Tables.{no_runs, no_sessions}
use Rattle.opening.proofs.closed.Goals as goal

pub returns : goal.returns
unfolding closed no_runs no_sessions
returns c = cc
