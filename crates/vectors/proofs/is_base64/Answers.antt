-- Six octets are eight letters at the most, and what was written lies within the array.
use Rattle.std.proofs.Common.{◌≡◌, ℕ, Bool, List, nat_eq, sym, arith, length-take-le}
use Rattle.std.specs.Bool.{Decides}
use Rattle.std.specs.Cmp.Lexicographic.{pointwise}
use Rattle.std.proofs.lemmas.Bool.Decides.{Decides-eqb}
use Rattle.std.proofs.lemmas.Slice.Eq.{slice_eq-Decides}
use Rattle.flow.proofs.Fronts.{wrote-within, wrote-front}
use Rattle.btid.proofs.Apart.{length-base64}
use Rattle.vectors.proofs.is_base64.Goals as goal

pub put_base64-count-requires : goal.put_base64-count-requires
put_base64-count-requires c = omega (arith, length-base64 c.args.octets.now)

pub slice_bounds-out-end : goal.slice_bounds-out-end
slice_bounds-out-end c = wrote-within _ _ _ _ c.put_base64-count.ensures

pub slice_bounds-eq-end : goal.slice_bounds-eq-end
slice_bounds-eq-end c = sym (length-take-le _ _ (wrote-within _ _ _ _ c.put_base64-count.ensures))

-- what a test of what was written says of what was meant
same : (meant written text : List ℕ) (r : Bool) → written ≡ meant → r ≡ pointwise nat_eq written text → Decides r (meant ≡ text)
same meant written text r e test = rw (← e) (slice_eq-Decides Decides-eqb written text r test)

pub returns : goal.returns
returns c =
    let told = same _ _ _ _ (wrote-front _ _ _ _ c.put_base64-count.ensures) c.eq.ensures in
    (λ t. (c.if-octets-gt6.false, told.0 t), λ p. told.1 p.1)
