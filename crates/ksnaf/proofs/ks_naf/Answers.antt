-- What was written at the front of the buffer is the string, and HMAC takes that front.
use Rattle.flow.proofs.Fronts.{wrote-front, wrote-within}
use mathlib.Core.Path.{sym, ap, ◌∙◌}
use lib.Seq.{length-take-le}
use Rattle.hmac.specs.Hmac.{hmac_of}
use Rattle.ksnaf.specs.KsNaf.{ks_naf}
use Rattle.ksnaf.proofs.ks_naf.Goals as goal

pub slice_bounds-s-end : goal.slice_bounds-s-end
slice_bounds-s-end c = wrote-within _ _ _ _ c.put_string-n.ensures

pub slice_bounds-hmac32-end : goal.slice_bounds-hmac32-end
slice_bounds-hmac32-end c = sym (length-take-le _ _ (wrote-within _ _ _ _ c.put_string-n.ensures))

pub returns : goal.returns
unfolding ks_naf
returns c = c.hmac32.ensures ∙ ap (hmac_of _) (wrote-front _ _ _ _ c.put_string-n.ensures)
