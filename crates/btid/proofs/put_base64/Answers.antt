-- Each group that comes stands at the front of what is left, and its letters go after those that were written.
use Rattle.std.proofs.Common.{◌≡◌, length, min, subst, ap, ◌∙◌}
use Rattle.std.specs.Slice.Iter.{chunks_rest}
use Rattle.flow.proofs.Fronts.{put_as}
use Rattle.btid.proofs.Laws.{Going, going_none, going_room, going_more, going_done}
use Rattle.btid.proofs.put_base64.Goals as goal

pub loop-group-init : goal.loop-group-init
loop-group-init c =
    let s = c.args.s.now in
    let out = c.args.out.now in
    let left : s ≡ chunks_rest c.into_iter-group-iterator.result = cc in
    record { size = cc; going = subst (λ rest. Going s rest out out 0) left (going_none s out) }

pub put_octets_at-at-requires : goal.put_octets_at-at-requires
put_octets_at-at-requires c =
    let i = c.loop-group.invariant in
    let h = c.in-Some.ensures.steps in
    let size = h.1.1 ∙ ap (λ n. min n (length (chunks_rest c.loop-group.group-iterator))) i.size in
    rw c.letters_of.ensures (going_room _ _ _ _ _ i.going _ _ h.1.0 size h.1.2 c.requires)

pub loop-group-preserved : goal.loop-group-preserved
loop-group-preserved c =
    let i = c.loop-group.invariant in
    let h = c.in-Some.ensures.steps in
    let size = h.1.1 ∙ ap (λ n. min n (length (chunks_rest c.loop-group.group-iterator))) i.size in
    record {
      size = h.0 ∙ i.size;
      going = going_more _ _ _ _ _ i.going _ _ h.1.0 size h.1.2 _ _ (put_as _ _ _ _ _ _ c.letters_of.ensures c.put_octets_at-at.ensures);
    }

pub returns : goal.returns
returns c = going_done _ _ _ _ _ c.loop-group.invariant.going c.in-None.ensures.steps.1.0
