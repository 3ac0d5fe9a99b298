-- What `sum` makes of the lengths, at most eight of at most LONGEST each.
use Rattle.std.proofs.Common.{◌<◌, ◌^◌, ◌∙◌, arith}
use Rattle.std.specs.List.{sum as total}
use Rattle.std.proofs.lemmas.Iterator.{YieldsList-from_slice}
use Rattle.std.proofs.lemmas.Iterator.Consumers.{sum_from_yields_List, fits_from_yields_list}
use Rattle.kdf.specs.Encode.{LONGEST}
use Rattle.kdf.proofs.Laws.{sum_is, sum_most}
use Rattle.kdf.proofs.sum_of.Goals as goal

pub sum-requires-clause-fits : goal.sum-requires-clause-fits
sum-requires-clause-fits c =
    let l = c.args.lens.now in
    let h : total l < 2 ^ 64 = omega (arith, sum_is l, sum_most LONGEST l c.requires.lens_value) in
    fits_from_yields_list c.iter.result _ (YieldsList-from_slice l cc) h

pub returns : goal.returns
returns c = sum_from_yields_List c.iter.result _ c.sum.ensures.ran (YieldsList-from_slice c.args.lens.now cc) ∙ sum_is c.args.lens.now
