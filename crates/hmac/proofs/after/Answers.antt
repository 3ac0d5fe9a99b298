-- The block is compressed first, and what follows it is finished from there.
use mathlib.Core.Path.{◌≡◌, ◌∙◌}
use mathlib.Core.List.{◌++◌}
use Rattle.sha256.specs.Digest.{octets, sha256_of}
use Rattle.sha256.proofs.Laws.{sha256-after, length-octets}
use Rattle.hmac.proofs.Laws.{front_whole}
use native.Mathlib.Omega.{arith}
use Rattle.hmac.proofs.after.Goals as goal

pub returns : goal.returns
returns c =
    let x = octets c.finish.result in
    let h : x ≡ sha256_of (c.args.b.now ++ c.args.m.now) =
    cc (c.finish.ensures, c.compress-x.ensures, c.start.ensures, sha256-after c.args.b.now c.args.m.now c.requires.0) in
    c.digest.ensures.octets ∙ front_whole x _ (omega (arith, length-octets c.finish.result)) ∙ h
