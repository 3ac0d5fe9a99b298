-- 01, "What goes back": the values that stand in each answer.
use Rattle.std.specs.Prelude.{ℕ, ◌⊎◌, List}
use Rattle.std.proofs.Common.{inl, inr}
use Rattle.answer.specs.Answer.{Answer, opened, challenge, made, aborted, keyed, wrong, Wanted, absent, present, identity_of, user_of}

pub record OpenedValues : Type 0 where
  pub restart : ℕ
  pub run : ℕ
  pub timestamp : ℕ

pub record ChallengeValues : Type 0 where
  pub rand : List ℕ
  pub autn : List ℕ

pub record MadeValues : Type 0 where
  pub btid : List ℕ
  pub start : ℕ
  pub expiry : ℕ

pub record EntryValues : Type 0 where
  pub flags : List ℕ
  pub user : List ℕ

-- no entry, or one
abbrev pub WantedValues : Type 0
WantedValues = Unit {0} ⊎ (EntryValues ⊎ ⊥)

-- the IMPI is empty where it is withheld
pub record KeyedValues : Type 0 where
  pub key : List ℕ
  pub start : ℕ
  pub expiry : ℕ
  pub impi : List ℕ
  pub wanted : WantedValues

-- one of the six, in the order of their kinds
abbrev pub AnswerValues : Type 0
AnswerValues = OpenedValues ⊎ (ChallengeValues ⊎ (MadeValues ⊎ (Unit {0} ⊎ (KeyedValues ⊎ (Unit {0} ⊎ ⊥)))))

-- ---- the values of an answer that the server gives

unfoldable pub wanted_values : Wanted → WantedValues
wanted_values absent = inl tt
wanted_values (present e) = inr (inl (record { flags = e.flags; user = user_of e }))

unfoldable pub values_of : Answer → AnswerValues
values_of (opened restart run timestamp) = inl (record { restart = restart; run = run; timestamp = timestamp })
values_of (challenge rand autn) = inr (inl (record { rand = rand; autn = autn }))
values_of (made btid start expiry) = inr (inr (inl (record { btid = btid; start = start; expiry = expiry })))
values_of aborted = inr (inr (inr (inl tt)))
values_of (keyed a) =
    let identity = identity_of a.shown a.subject in
    inr (inr (inr (inr (inl (record { key = a.key; start = a.start; expiry = a.expiry; impi = identity; wanted = wanted_values a.wanted })))))
values_of wrong = inr (inr (inr (inr (inr (inl tt)))))
