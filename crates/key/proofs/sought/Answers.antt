-- A shelf with a row searches all of them.
use mathlib.Core.Path.{sym, ap}
use Rattle.std.proofs.Common.{option_copied}
use Rattle.std.specs.Prelude.{Option}
use denote.Bor.{Bor}
use Rattle.flow.specs.Choice.{pick}
use Rattle.shelves.specs.Shelf.{policy_as}
use Rattle.shelves.specs.declared.Row.{Row}
use Rattle.key.specs.Replies.{sought}
use Rattle.key.proofs.sought.Goals as goal

pub returns-in-Some : goal.returns-in-Some
unfolding sought pick
returns-in-Some c = sym (ap (λ (o : Option (Bor Row)). sought (policy_as (option_copied o)) c.args.sessions.now) c.in-Some.is)

pub returns-in-None : goal.returns-in-None
unfolding sought pick
returns-in-None c = sym (ap (λ (o : Option (Bor Row)). sought (policy_as (option_copied o)) c.args.sessions.now) c.in-None.is)
