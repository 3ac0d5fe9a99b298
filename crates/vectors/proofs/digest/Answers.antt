-- A message that is too long is refused, and the digest of another fills the array.
use Rattle.std.proofs.Common.{ℕ, ◌≤◌, List, length, arith, refl, inl, inr}
use Rattle.std.proofs.lemmas.Bool.{cases_lt}
use borrow.Author.Tests.{lt-ltb, le-ltb}
use Rattle.flow.specs.Result.{refuse, ◌>>◌}
use Rattle.sha256.specs.Digest.{LIMIT, DIGEST, sha256_of, sha256_rule}
use Rattle.sha256.proofs.Laws.{length-sha256}
use Rattle.vectors.proofs.Answered.{Answers, answered}
use Rattle.vectors.proofs.digest.Goals as goal

ruled : (m : List ℕ) → Answers (sha256_rule m DIGEST) (length m ≤ LIMIT) (sha256_of m)
unfolding sha256_rule refuse ◌>>◌
ruled m = elim (cases_lt LIMIT (length m)) [
  | inl h ↦ inr (rw (lt-ltb LIMIT (length m) h) refl, λ k. omega arith)
  | inr h ↦ inl (rw (le-ltb LIMIT (length m) h) refl, h)
]

pub returns : goal.returns
returns c =
    let m = c.args.message.now in
    rw (c.then_some.ensures, c.is_ok.ensures.value) (answered _ _ _ _ _ _ (ruled m) (omega (arith, length-sha256 m)) c.sha256.ensures)
