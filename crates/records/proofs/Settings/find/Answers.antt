-- The search is the definition's.
use Rattle.std.proofs.Common.{rules, tests}
use Rattle.std.proofs.lemmas.Iterator.{YieldsList-from_slice}
use Rattle.std.proofs.lemmas.Iterator.Search.{position_from_yields_List}
use Rattle.flow.proofs.Positions.{by_position}
use Rattle.records.specs.Settings.{is_entry}
use Rattle.records.proofs.Settings.find.Goals as goal

pub returns : goal.returns
returns c =
    by_position _ _ _
    (position_from_yields_List (is_entry c.args.application c.args.group) _ _ _ c.position.ensures.ran (YieldsList-from_slice c.args.self.now.entries cc)
    (λ x b q k. search (rules, tests)))
