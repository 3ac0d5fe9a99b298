-- Two fields, one after the other: the parameter, and its length.
use Rattle.std.proofs.Common.{◌∙◌}
use Rattle.kdf.proofs.Laws.{front-copied, param-wrote}
use Rattle.kdf.proofs.put_param.Goals as goal

pub returns : goal.returns
returns c =
    let p = c.args.p.now in
    let w = front-copied p _ c.args.out.now c.copy_from_slice.ensures.after in
    param-wrote p _ _ _ c.requires.p_len_bound w (c.copy_from_slice-2.ensures.after ∙ c.to_be_bytes.ensures)
