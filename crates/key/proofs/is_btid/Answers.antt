-- The B-TID is made in a local array that is long enough, and compared as a text.
use mathlib.Core.Path.{sym, ap, ◌∙◌}
use Rattle.std.proofs.Common.{ℕ, List}
use lib.Seq.{length-take-le}
use Rattle.flow.proofs.Fronts.{wrote-front, wrote-within}
use Rattle.octets.specs.Octets.{same}
use Rattle.btid.specs.Btid.{btid}
use Rattle.key.proofs.Laws.{btid-most}
use Rattle.key.proofs.is_btid.Goals as goal

pub put_btid-len-requires : goal.put_btid-len-requires
put_btid-len-requires c = btid-most _ _ c.told-rand c.as_octets.ensures.within

pub slice_bounds-own-end : goal.slice_bounds-own-end
slice_bounds-own-end c = wrote-within _ _ _ _ c.put_btid-len.ensures

pub slice_bounds-same-end : goal.slice_bounds-same-end
slice_bounds-same-end c = sym (length-take-le c.put_btid-len.result c.put_btid-len.new.out (wrote-within _ _ _ _ c.put_btid-len.ensures))

pub returns : goal.returns
returns c =
    c.same.ensures
    ∙ ap (λ (l : List ℕ). same l c.args.text.now) (wrote-front _ _ _ _ c.put_btid-len.ensures ∙ ap (btid c.args.rand.now) c.as_octets.ensures.octets)
