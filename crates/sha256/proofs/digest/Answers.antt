-- Each word is put after those before it.
use Rattle.flow.proofs.Fronts.{first-put, next-put}
use Rattle.sha256.specs.Digest.{octets}
use Rattle.sha256.proofs.digest.Goals as goal

pub returns : goal.returns
unfolding octets
returns c =
    let w1 = first-put _ _ _ _ c.put_word-b.ensures in
    let w2 = next-put _ _ _ _ _ _ _ c.put_word-c.ensures w1 in
    let w3 = next-put _ _ _ _ _ _ _ c.put_word-d.ensures w2 in
    let w4 = next-put _ _ _ _ _ _ _ c.put_word-e.ensures w3 in
    let w5 = next-put _ _ _ _ _ _ _ c.put_word-f.ensures w4 in
    let w6 = next-put _ _ _ _ _ _ _ c.put_word-g.ensures w5 in
    let w7 = next-put _ _ _ _ _ _ _ c.put_word-h.ensures w6 in
    next-put _ _ _ _ _ _ _ c.put_word.ensures w7
