-- A key or a text that is too long is refused, and the code of others fills the array.
use Rattle.std.proofs.Common.{ℕ, ◌≤◌, List, length, arith, refl, inl, inr}
use Rattle.std.proofs.lemmas.Bool.{cases_lt}
use borrow.Author.Tests.{lt-ltb, le-ltb}
use Rattle.flow.specs.Result.{refuse, ◌>>◌}
use Rattle.sha256.specs.Digest.{LIMIT, DIGEST}
use Rattle.hmac.specs.Hmac.{hmac_of, hmac_rule}
use Rattle.hmac.proofs.Laws.{length-hmac}
use Rattle.vectors.proofs.Answered.{Answers, answered}
use Rattle.vectors.proofs.code.Goals as goal

ruled : (key text : List ℕ) → Answers (hmac_rule key text DIGEST) ((length key ≤ LIMIT) × (length text ≤ LIMIT)) (hmac_of key text)
unfolding hmac_rule refuse ◌>>◌
ruled key text = elim (cases_lt LIMIT (length key)) [
  | inl h ↦ inr (rw (lt-ltb LIMIT (length key) h) refl, λ k. omega arith)
  | inr h ↦ elim (cases_lt LIMIT (length text)) [
    | inl i ↦ inr (rw (le-ltb LIMIT (length key) h, lt-ltb LIMIT (length text) i) refl, λ k. omega arith)
    | inr i ↦ inl (rw (le-ltb LIMIT (length key) h, le-ltb LIMIT (length text) i) refl, (h, i))
  ]
]

pub returns : goal.returns
returns c =
    let key = c.args.key.now in
    let text = c.args.text.now in
    rw (c.then_some.ensures, c.is_ok.ensures.value) (answered _ _ _ _ _ _ (ruled key text) (omega (arith, length-hmac key text)) c.hmac.ensures)
