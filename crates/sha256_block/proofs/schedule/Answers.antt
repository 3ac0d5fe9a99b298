-- The words of the block come first, and then each is made from those before it.
use Rattle.std.proofs.Common.{refl, arith}
use Rattle.blocks.specs.Schedule.{schedule}
use Rattle.blocks.proofs.Schedule.{first_word, later-word, all_words}
use Rattle.sha256_block.specs.Compress.{W}
use Rattle.sha256_block.proofs.Rule.{mixed_recent}
use Rattle.sha256_block.proofs.schedule.Goals as goal

pub loop-t-init : goal.loop-t-init
unfolding schedule
loop-t-init c = record { room = omega arith; words = refl }

pub loop-t-preserved : goal.loop-t-preserved
loop-t-preserved c =
    let l = c.loop-t in
    first_word _ _ _ l.t l.w l.invariant c.word.result c.loop-t-test.true (omega arith) c.word.ensures

pub loop-t-2-preserved : goal.loop-t-2-preserved
loop-t-2-preserved c =
    let l = c.loop-t-2 in
    later-word _ _ _ l.t l.w l.invariant mixed_recent c.next.result (omega arith) (omega arith) c.next.ensures

pub returns : goal.returns
unfolding W
returns c = let l = c.loop-from in all_words _ _ _ l.from l.w l.invariant.0 (omega arith)
