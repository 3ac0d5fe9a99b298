-- The chain of refusals, and then the code, copied to the front of the buffer.
use Rattle.flow.proofs.Fronts.{copied}
use Rattle.flow.proofs.Replies.{replies}
use Rattle.hmac.specs.Hmac.{hmac_of, hmac_rule}
use Rattle.hmac.proofs.Laws.{length-hmac}
use Rattle.sha256.specs.Digest.{DIGEST}
use Rattle.flow.specs.Front.{Wrote}
use native.Mathlib.Omega.{arith}
use mathlib.Core.Path.{◌≡◌, sym, ap, ◌∙◌}
use mathlib.Core.List.{◌++◌}
use lib.ListN.{length, drop, length-take}
use lib.Seq.{take-length}
use Rattle.hmac.proofs.hmac.Goals as goal

pub returns-then-key-gt-LIMIT : goal.returns-then-key-gt-LIMIT
unfolding hmac_rule
returns-then-key-gt-LIMIT c = search replies

pub returns-then-text-gt-LIMIT : goal.returns-then-text-gt-LIMIT
unfolding hmac_rule
returns-then-text-gt-LIMIT c = search replies

pub returns-then-out-lt-DIGEST : goal.returns-then-out-lt-DIGEST
unfolding hmac_rule
returns-then-out-lt-DIGEST c = search replies

pub copy_from_slice-requires : goal.copy_from_slice-requires
copy_from_slice-requires c =
    let l : length c.hmac32-c.result ≡ DIGEST = ap length c.hmac32-c.ensures ∙ length-hmac c.args.key.now c.args.text.now in
    simp length-take (omega arith)

pub returns : goal.returns
unfolding hmac_rule
returns c =
    let x = hmac_of c.args.key.now c.args.text.now in
    let l : DIGEST ≡ length x = sym (length-hmac c.args.key.now c.args.text.now) in
    let w : Wrote x DIGEST c.args.out.now (c.copy_from_slice.new.self ++ drop DIGEST c.args.out.now) =
    copied x _ _ _ l (rw (c.copy_from_slice.ensures.after, c.hmac32-c.ensures, take-length x, ← l)) in
    search replies
