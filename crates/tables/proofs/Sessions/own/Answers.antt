-- The search is the definition's.
use Rattle.std.proofs.Common.{rules, tests}
use Rattle.std.proofs.lemmas.Iterator.{YieldsList-from_slice}
use Rattle.std.proofs.lemmas.Iterator.Search.{position_from_yields_List}
use Rattle.flow.proofs.Positions.{by_position}
use Rattle.records.specs.Rows.{is_own}
use Rattle.tables.specs.Tables.{own_of}
use Rattle.tables.proofs.Sessions.own.Goals as goal

pub returns : goal.returns
unfolding own_of
returns c =
    by_position _ _ _
    (position_from_yields_List (is_own c.args.impi.now c.args.time) _ _ _ c.position.ensures.ran (YieldsList-from_slice c.args.self.now.rows cc) (λ x b q k. search (rules, tests)))
