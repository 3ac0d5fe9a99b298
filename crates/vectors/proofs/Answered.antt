-- What a buffer is worth after a reply: the octets that were answered, where they fill it, and nothing after a refusal.
use Rattle.std.proofs.Common.{◌≡◌, ◌⊎◌, ◌≤◌, ℕ, List, length, inl, inr}
use Rattle.std.specs.Prelude.{SomeIff, is_ok}
use Rattle.std.specs.Prelude.{Result as Returned}
use Rattle.std.specs.Bool.{then_some}
use Rattle.flow.specs.Result.{Result, refused, ok}
use Rattle.flow.specs.Refusals.{FORM}
use Rattle.flow.specs.Reply.{reply_of, told, buffer_of, Met}
use Rattle.flow.specs.declared.Refusal.{Refusal}
use Rattle.flow.proofs.Replies.{answered-no}
use Rattle.hmac.proofs.Laws.{front_whole}

-- a rule answers x where P holds, and else refuses
abbrev pub Answers : Result (List ℕ) → Type 0 → List ℕ → Type 0
Answers o P x = ((o ≡ ok x) × P) ⊎ ((o ≡ refused FORM) × ¬ P)

pub answered : (P : Type 0) (x old new : List ℕ) (r : Returned ℕ Refusal) (o : Result (List ℕ)) → Answers o P x → length old ≤ length x → Met o old (told r) new
    → SomeIff (then_some (is_ok r) new) P x
unfolding reply_of buffer_of
answered P x old new r o (inl a) fills met = rw (answered-no r, met.reply, met.buffer, a.0) (a.1, front_whole x old fills)
answered P x old new r o (inr a) fills met = rw (answered-no r, met.reply, a.0) a.1
