-- Past m there are zeros; else the rest of m is copied, and the octet 0x80 is written after it.
use Rattle.std.proofs.Common.{◌≡◌, ℕ, ◌-◌, List, ◌++◌, length, take, drop, arith, ap, ◌∙◌, length-drop}
use lib.Seq.{take-length, take_all}
use Rattle.blocks.proofs.Padding.{mark_past, mark_within}
use Rattle.blocks.proofs.marked.Goals as goal

copied : (x s z : List ℕ) (k : ℕ) → x ≡ s → length s ≡ k → x ++ drop k z ≡ take (length s) s ++ drop (length s) z
copied x s z k e l = rw (e, ← l, take-length s)

pub returns-then-end-at : goal.returns-then-end-at
returns-then-end-at c = mark_past c.args.m.now c.args.at (omega arith) (omega arith)

pub returns : goal.returns
returns c =
    let m = c.args.m.now in
    let at = c.args.at in
    let rest = drop at m in
    let l : length (take (length m - at) rest) ≡ length m - at =
    ap length (take_all (length m - at) rest (simp length-drop (omega arith))) ∙ length-drop at m in
    mark_within m _ at (omega arith) (omega arith) (copied _ _ _ _ c.copy_from_slice.ensures.after l)
