-- The student's own place, or else a free one.
use mathlib.Core.Path.{◌≡◌, ap₂, ◌∙◌}
use Rattle.std.specs.Prelude.{Option}
use Rattle.std.specs.Option.{option_or}
use Rattle.std.proofs.Common.{ℕ, rules, tests}
use Rattle.std.proofs.lemmas.Iterator.{YieldsList-from_slice}
use Rattle.std.proofs.lemmas.Iterator.Search.{position_from_yields_List}
use Rattle.flow.proofs.Positions.{by_position}
use Rattle.flow.specs.Search.{first}
use Rattle.tables.specs.Tables.{own_of, is_over, place_for}
use Rattle.tables.proofs.Sessions.place_for.Goals as goal

pub returns : goal.returns
unfolding place_for own_of
returns c =
    let free : c.position-free.result ≡ first (is_over c.args.time) c.args.self.now.rows =
    by_position _ _ _
    (position_from_yields_List (is_over c.args.time) _ _ _ c.position-free.ensures.ran (YieldsList-from_slice c.args.self.now.rows cc) (λ x b q k. search (rules, tests)))
    in
    c.or.ensures ∙ ap₂ (λ (f g : Option ℕ). option_or f g) c.own-own.ensures free
