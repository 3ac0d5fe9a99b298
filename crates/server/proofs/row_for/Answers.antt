-- A body that is no event, another kind, and a KEY.
use mathlib.Core.Path.{◌≡◌, sym, ap, ◌∙◌}
use Rattle.std.proofs.Common.{Some, None}
use Rattle.event.specs.Meaning.{values_at, meaning}
use Rattle.event.specs.Table.{decoded}
use Rattle.server.proofs.Laws.{nothing_counts, none_counts, row_counts}
use Rattle.server.proofs.row_for.Goals as goal

pub returns-in_err-v : goal.returns-in_err-v
returns-in_err-v c =
    let d : decoded c.args.body.now ≡ None = sym c.requires.means ∙ ap (meaning c.args.body.now) c.in_err-v.was in
    λ s room. rw d (nothing_counts _ _ s room)

pub returns-in_default : goal.returns-in_default
returns-in_default c =
    let e = c.in_ok-v.field-0 in
    let d : decoded c.args.body.now ≡ Some (values_at c.args.body.now e) = sym c.requires.means ∙ ap (meaning c.args.body.now) c.in_ok-v.was in
    λ s room. rw d (none_counts _ _ _ _ e.kind c.in_default.not-Key s room)

pub returns : goal.returns
returns c =
    let e = c.in_ok-v.field-0 in
    let d : decoded c.args.body.now ≡ Some (values_at c.args.body.now e) = sym c.requires.means ∙ ap (meaning c.args.body.now) c.in_ok-v.was in
    λ s room. rw d (row_counts _ _ _ _ e.kind c.in-Key.v c.in-Key.is _ _ c.of.ensures c.of-naf.ensures c.lookup.ensures.says s room)
