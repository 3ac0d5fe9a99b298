-- What `any` finds over the lengths.
use Rattle.std.proofs.Common.{ltb, ◌∙◌, rules, tests}
use Rattle.std.proofs.lemmas.Iterator.{YieldsList-from_slice}
use Rattle.std.proofs.lemmas.Iterator.Search.{any_from_yields_List}
use Rattle.kdf.specs.Encode.{LONGEST}
use Rattle.kdf.proofs.Laws.{any_is}
use Rattle.kdf.proofs.is_any_long.Goals as goal

pub returns : goal.returns
returns c =
    any_from_yields_List (ltb LONGEST) _ _ _ c.any.ensures.ran (YieldsList-from_slice c.args.lens.now cc) (λ x b q k. search (rules, tests))
    ∙ any_is LONGEST c.args.lens.now
