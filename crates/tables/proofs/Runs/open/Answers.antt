-- The search is the definition's.
use Rattle.std.proofs.Common.{rules, tests}
use Rattle.std.proofs.lemmas.Iterator.{YieldsList-from_slice}
use Rattle.std.proofs.lemmas.Iterator.Search.{position_from_yields_List}
use Rattle.flow.proofs.Positions.{by_position}
use Rattle.records.specs.Rows.{is_run}
use Rattle.tables.specs.Tables.{run_of}
use Rattle.tables.proofs.Runs.open.Goals as goal

pub returns : goal.returns
unfolding run_of
returns c =
    by_position _ _ _
    (position_from_yields_List (is_run c.args.number c.args.time) _ _ _ c.position.ensures.ran (YieldsList-from_slice c.args.self.now.rows cc) (λ x b q k. search (rules, tests)))
