-- Each part of the test decides; a text that starts otherwise is another's.
use mathlib.Core.Path.{sym, ap, ◌∙◌}
use mathlib.Core.Bool.{Bool, ◌&&◌, and-false, true≢false}
use Rattle.flow.proofs.Tests.{fails_told, holds_told}
use Rattle.records.specs.Rows.{is_live}
use Rattle.tables.specs.Tables.{is_named}
use Rattle.key.proofs.is_named.Goals.{then-starts, else-starts}
use Rattle.key.proofs.is_named.Goals as goal

pub returns-then-is_live : goal.returns-then-is_live
unfolding is_named
returns-then-is_live c =
    elim c.if-starts.branch [
      | then-starts w ↦ holds_told _ w.is_live.result _ _ w.is_live.ensures (sym w.value-is ∙ c.if-is_live.true) c.is_btid.ensures
      | else-starts w ↦ absurd (true≢false (sym c.if-is_live.true ∙ w.value-is ∙ w.if-starts.false))
    ]

pub returns-else-is_live : goal.returns-else-is_live
unfolding is_named
returns-else-is_live c =
    elim c.if-starts.branch [
      | then-starts w ↦ c.if-is_live.false ∙ fails_told _ w.is_live.result _ w.is_live.ensures (sym w.value-is ∙ c.if-is_live.false)
      | else-starts w ↦
          let b = is_live c.args.time c.args.session.now in
          c.if-is_live.false ∙ sym (and-false b) ∙ ap (λ (o : Bool). b && o) (sym (c.starts.ensures.apart w.if-starts.false _))
    ]
