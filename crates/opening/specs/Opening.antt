-- What the caller of an opening sees: 0 and the state, or the number of the refusal and the closed state.
use Rattle.std.specs.Prelude.{ℕ, ◌≡◌, Ok, Err, Result as Returned}
use Rattle.flow.specs.Refusals.{number}
use Rattle.flow.specs.Result.{Result, refused, ok}
use Rattle.flow.specs.declared.Refusal.{Refusal}
use Rattle.tables.specs.declared.State.{State}
use Rattle.rules.specs.Opening.{closed}

pub record Opening : Type 0 where
  pub no : ℕ
  pub state : State

unfoldable pub opening_of : Result State → Opening
opening_of (refused n) = record { no = n; state = closed }
opening_of (ok s) = record { no = 0; state = s }

-- the number of what an opening returns
abbrev pub number_told : Returned (Unit {0}) Refusal → ℕ
number_told (Ok u) = 0
number_told (Err e) = number e

-- the state t and what is returned are those of an opening
abbrev pub Opened : Opening → State → Returned (Unit {0}) Refusal → Type 0
Opened o t r = record { no = number_told r; state = t } ≡ o
