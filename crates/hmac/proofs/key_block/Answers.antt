-- A long key's digest, or the key itself, is put at the front of a block of zeros.
use mathlib.Core.Path.{◌≡◌, ◌∙◌}
use Rattle.sha256.specs.Digest.{octets, sha256_of}
use Rattle.sha256.proofs.Laws.{sha256_whole}
use Rattle.hmac.proofs.Laws.{long-key, short-copied}
use Rattle.hmac.proofs.key_block.Goals as goal

pub returns-then-key-gt-BLOCK : goal.returns-then-key-gt-BLOCK
returns-then-key-gt-BLOCK c =
    let k = c.args.key.now in
    let h : octets c.finish.result ≡ sha256_of k = cc (c.finish.ensures, c.start.ensures, sha256_whole k) in
    (rw h at c.digest.ensures).octets ∙ long-key k c.if-key-gt-BLOCK.true

pub returns-else-key-gt-BLOCK : goal.returns-else-key-gt-BLOCK
returns-else-key-gt-BLOCK c = short-copied c.args.key.now _ c.copy_from_slice.ensures.after c.if-key-gt-BLOCK.false
