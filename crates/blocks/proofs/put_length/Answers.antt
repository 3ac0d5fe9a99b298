-- The octets that are copied behind the front are those of the length, in the order that is asked for.
use Rattle.std.proofs.Common.{◌≡◌, ap, ◌∙◌, ◌*◌, ◌-◌, ◌++◌, take}
use Rattle.blocks.specs.Blocks.{length_in, LENGTH, BLOCK}
use Rattle.blocks.proofs.Words.{high_first, low_first}
use Rattle.flow.proofs.Fronts.{put-end}
use Rattle.blocks.proofs.put_length.Goals as goal
use Rattle.blocks.proofs.put_length.Goals.{in-HighFirst, in-LowFirst}

pub returns : goal.returns
returns c =
    let a = c.args in
    let h : c.match-order.octets ≡ length_in a.order (8 * a.n) =
    elim c.match-order.branch [ in-HighFirst w ↦ cc (high_first (8 * a.n)) | in-LowFirst w ↦ cc (low_first (8 * a.n)) ] in
    put-end (BLOCK - LENGTH) a.b.now _ ∙ ap (λ x. take (BLOCK - LENGTH) a.b.now ++ x) (c.copy_from_slice.ensures.after ∙ h)
