-- Each search is the definition's, and the first that finds decides.
use mathlib.Core.Path.{◌≡◌, sym, ◌∙◌}
use mathlib.Core.Bool.{Bool, true, false, ◌||◌, true≢false}
use Rattle.std.proofs.Common.{rules, tests}
use Rattle.std.proofs.lemmas.Iterator.{YieldsList-from_slice}
use Rattle.std.proofs.lemmas.Iterator.Search.{any_from_yields_List}
use Rattle.flow.proofs.Positions.{by_any}
use Rattle.records.specs.Rows.{is_other, has_rand}
use Rattle.tables.specs.Tables.{other_of, rand_of}
use Rattle.tables.specs.State.{rand_seen}
use Rattle.tables.proofs.State.rand_seen.Goals as goal

first-finds : (x y r : Bool) → r ≡ x → r ≡ true → r ≡ (x || y)
first-finds true y r e t = e
first-finds false y r e t = absurd (true≢false (sym t ∙ e))

second-decides : (x y q r : Bool) → q ≡ x → q ≡ false → r ≡ y → r ≡ (x || y)
second-decides true y q r e f p = absurd (true≢false (sym e ∙ f))
second-decides false y q r e f p = p

pub returns-then-filed : goal.returns-then-filed
unfolding rand_seen rand_of
returns-then-filed c =
    let has = has_rand c.args.rand.now c.args.time in
    first-finds _ _ _
    (by_any _ _ _
    (any_from_yields_List has _ _ _ c.any-filed.ensures.ran (YieldsList-from_slice c.args.self.now.sessions.rows cc) (λ x b q k. search (rules, tests))))
    c.if-filed.true

pub returns-else-filed : goal.returns-else-filed
unfolding rand_seen rand_of other_of
returns-else-filed c =
    let has = has_rand c.args.rand.now c.args.time in
    let other = is_other c.args.number c.args.rand.now c.args.time in
    second-decides _ _ _ _
    (by_any _ _ _
    (any_from_yields_List has _ _ _ c.any-filed.ensures.ran (YieldsList-from_slice c.args.self.now.sessions.rows cc) (λ x b q k. search (rules, tests))))
    c.if-filed.false
    (by_any _ _ _
    (any_from_yields_List other _ _ _ c.any-open.ensures.ran (YieldsList-from_slice c.args.self.now.runs.rows cc) (λ x b q k. search (rules, tests))))
