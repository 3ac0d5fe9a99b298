-- The chain of refusals, and then the digest of the hash value after all blocks.
use mathlib.Core.Path.{◌≡◌}
use Rattle.sha256.proofs.Laws.{sha256_whole}
use Rattle.flow.proofs.Replies.{replies}
use Rattle.sha256.specs.Digest.{octets, sha256_of, sha256_rule}
use Rattle.sha256.proofs.sha256.Goals as goal

pub returns-then-m-gt-LIMIT : goal.returns-then-m-gt-LIMIT
unfolding sha256_rule
returns-then-m-gt-LIMIT c = search replies

pub returns-then-out-lt-DIGEST : goal.returns-then-out-lt-DIGEST
unfolding sha256_rule
returns-then-out-lt-DIGEST c = search replies

pub returns : goal.returns
unfolding sha256_rule
returns c =
    let m = c.args.m.now in
    let h : octets c.finish.result ≡ sha256_of m = cc (c.finish.ensures, c.start.ensures, sha256_whole m) in
    let w = rw h at c.digest-len.ensures in
    search replies
