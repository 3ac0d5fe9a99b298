-- The run that is lent to the encoder is the four parameters joined, so its answer is their string.
use Rattle.flow.proofs.Fronts.{wrote-within}
use mathlib.Core.Path.{sym}
use lib.Seq.{length-take-le}
use Rattle.ksnaf.proofs.Laws.{string_wrote, string-answered}
use Rattle.ksnaf.proofs.put_string.Goals as goal

pub slice_bounds-run-end : goal.slice_bounds-run-end
slice_bounds-run-end c = wrote-within _ _ _ _ c.put_run-n.ensures

pub slice_bounds-encode-end : goal.slice_bounds-encode-end
slice_bounds-encode-end c = sym (length-take-le _ _ (wrote-within _ _ _ _ c.put_run-n.ensures))

pub unwrap-requires : goal.unwrap-requires
unwrap-requires c = string-answered _ _ _ _ _ _ _ _ _ c.requires.sizes c.requires.in_bounds c.put_run-n.ensures c.encode.ensures

pub returns : goal.returns
returns c =
    let w = string_wrote _ _ _ _ _ _ _ _ _ c.requires.sizes c.requires.in_bounds c.put_run-n.ensures c.encode.ensures in
    rw c.unwrap.ensures at w
