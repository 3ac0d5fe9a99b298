-- A body that is no event, another kind, and a KEY.
use mathlib.Core.Path.{◌≡◌, sym, ap, subst, ◌∙◌}
use Rattle.std.specs.Prelude.{None}
use Rattle.event.specs.Meaning.{meaning}
use Rattle.event.specs.Placed.{KindPlaced}
use Rattle.server.proofs.Laws.{asks_nowhere, asks_no_key, asks_there}
use Rattle.server.proofs.asked.Goals as goal

pub returns-in_default : goal.returns-in_default
returns-in_default c =
    let e : c.decode.result ≡ None = c.in_default.is in
    rw c.none.ensures
    (asks_nowhere _ (sym c.decode.ensures.means ∙ ap (meaning c.args.body.now) e))

pub returns-in_default-kind : goal.returns-in_default-kind
returns-in_default-kind c =
    let e = c.in-Some.event in
    rw c.none-in_default-kind.ensures
    (asks_no_key _ e.time e.kind c.in_default-kind.not-Key (sym c.decode.ensures.means ∙ ap (meaning c.args.body.now) c.in-Some.is))

pub returns : goal.returns
returns c =
    let e = c.in-Some.event in
    let p = subst (KindPlaced c.args.body.now) c.in-Key.is c.in-Some.ensures.placed.kind_placed in
    asks_there _ e.time e.kind c.in-Key.v c.in-Key.is p (sym c.decode.ensures.means ∙ ap (meaning c.args.body.now) c.in-Some.is)
