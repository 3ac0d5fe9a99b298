-- Ks, RAND and the IMPI's octets are the session's own.
use mathlib.Core.Path.{ap, ◌∙◌}
use Rattle.std.proofs.Common.{ℕ, List}
use Rattle.ksnaf.specs.KsNaf.{ks_naf}
use Rattle.rules.specs.Key.{key_for}
use Rattle.key.proofs.key_of.Goals as goal

pub returns : goal.returns
unfolding key_for
returns c =
    let x = c.args.session.now in
    c.ks_naf.ensures ∙ ap (λ (i : List ℕ). ks_naf x.ks x.rand i c.args.naf.now) c.as_octets-impi.ensures.octets
