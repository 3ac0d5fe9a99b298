-- Four fields, each copied after the one before.
use Rattle.flow.proofs.Fronts.{next-put}
use Rattle.kdf.proofs.Laws.{copied-put, front-copied}
use Rattle.ksnaf.specs.KsNaf.{P0}
use Rattle.ksnaf.proofs.put_run.Goals as goal

pub returns : goal.returns
returns c =
    let a = c.args in
    let w1 = front-copied P0 _ a.out.now c.copy_from_slice.ensures.after in
    let w2 = next-put _ _ _ _ _ _ _ (copied-put a.rand.now _ _ _ c.copy_from_slice-2.ensures.after) w1 in
    let w3 = next-put _ _ _ _ _ _ _ (copied-put a.impi.now _ _ _ c.copy_from_slice-3.ensures.after) w2 in
    next-put _ _ _ _ _ _ _ (copied-put a.naf.now _ _ _ c.copy_from_slice-4.ensures.after) w3
