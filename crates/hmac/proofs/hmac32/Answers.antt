-- RFC 2104's two digests, one within the other.
use Rattle.hmac.specs.Hmac.{hmac_of}
use Rattle.hmac.proofs.hmac32.Goals as goal

pub returns : goal.returns
unfolding hmac_of
returns c = cc
