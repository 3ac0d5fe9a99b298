-- One round more at each turn.
use Rattle.std.proofs.Common.{get_or, refl, rules}
use Rattle.blocks.specs.Blocks.{steps}
use Rattle.blocks.proofs.Blocks.{step-more}
use Rattle.sha256_block.specs.Words.{K}
use Rattle.sha256_block.specs.Compress.{round_of, rounds}
use Rattle.sha256_block.proofs.rounds.Goals as goal

pub loop-from-init : goal.loop-from-init
unfolding rounds steps
loop-from-init c = (refl, search rules, refl)

pub loop-t-preserved : goal.loop-t-preserved
unfolding rounds K
loop-t-preserved c =
    let l = c.loop-t in
    step-more (λ t v. round_of v (get_or K t 0) (get_or c.args.w.now t 0)) c.args.x l.s c.round-s.result l.t l.invariant c.round-s.ensures
