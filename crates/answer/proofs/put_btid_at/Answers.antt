-- The B-TID is made in a local array that is long enough, and put as a text.
use mathlib.Core.Path.{sym, ap, ◌∙◌}
use lib.Seq.{length-take-le}
use native.Mathlib.Omega.{arith}
use Rattle.flow.proofs.Fronts.{wrote-front, wrote-within, put_as}
use Rattle.line.specs.Text.{text_octets}
use Rattle.btid.specs.Btid.{btid}
use Rattle.answer.proofs.Laws.{rooms}
use Rattle.answer.proofs.put_btid_at.Goals as goal

pub slice_bounds-text-end : goal.slice_bounds-text-end
slice_bounds-text-end c = wrote-within _ _ _ _ c.put_btid-len.ensures

pub slice_bounds-put_text_at-end : goal.slice_bounds-put_text_at-end
slice_bounds-put_text_at-end c = sym (length-take-le _ _ (wrote-within _ _ _ _ c.put_btid-len.ensures))

pub put_text_at-requires : goal.put_text_at-requires
put_text_at-requires c = rw (wrote-front _ _ _ _ c.put_btid-len.ensures) (grind (arith, rooms))

pub returns-clause-put : goal.returns-clause-put
returns-clause-put c =
    put_as _ _ _ _ _ _ (ap text_octets (wrote-front _ _ _ _ c.put_btid-len.ensures ∙ ap (btid c.args.rand.now) c.as_octets.ensures.octets)) c.put_text_at.ensures

pub returns-clause-within : goal.returns-clause-within
returns-clause-within c = let e = wrote-front _ _ _ _ c.put_btid-len.ensures in let p = c.put_text_at.ensures in grind (arith, rooms)
