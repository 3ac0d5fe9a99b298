-- What a caller from C or Rust sees. The state is lent: the state at exit and what is returned are together what a function makes of it.
use Rattle.std.specs.Prelude.{ℕ, ◌+◌, ◌≤◌, ◌<◌, ◌^◌, ◌≡◌, List, length}
use Rattle.flow.specs.declared.Reply.{Reply}
use Rattle.tables.specs.declared.State.{State}
use Rattle.shelves.specs.declared.Shelf.{Shelf}
use Rattle.opening.specs.Opening.{Opening}
use Rattle.outcome.specs.Outcome.{Outcome}
use Rattle.batch.specs.declared.Why.{Why}
use Rattle.batch.specs.declared.Why.TheVariants.{More, Full, Bad}
use Rattle.batch.specs.declared.Batch.{Batch}
use Rattle.batch.specs.Batch.{Served}
use Rattle.exports.specs.declared.Progress.{Progress}

abbrev pub opening : State → ℕ → Opening
opening s n = record { no = n; state = s }

abbrev pub outcome : State → Reply → Outcome
outcome s r = record { state = s; reply = r }

-- why a batch ended, as a number: 0 more input is wanted, 2 SHORT no room for the next line, 3 FORM no event stands there
abbrev pub number_of : Why → ℕ
number_of More = 0
number_of Full = 2
number_of Bad = 3

abbrev pub progress_of : Batch → Progress
progress_of b = record { no = number_of b.why; len = b.len; at = b.at; place = b.place }

-- what a batch hands back, and the state t that it leaves of s: where the places of its events could pass 64 bits it is refused with 3, nothing is written and nothing changes;
-- otherwise it is the batch of the input from its front on
pub data Progressed (s : State) (shelf : Shelf) (first : ℕ) (input old : List ℕ) (t : State) (r : Progress) (new : List ℕ) : Type 0 where
  beyond : 2 ^ 64 ≤ first + length input → r ≡ record { no = 3; len = 0; at = 0; place = first } → t ≡ s → new ≡ old → Progressed s shelf first input old t r new
  within : first + length input < 2 ^ 64 → (b : Batch) → Served shelf input s 0 first t b old new → r ≡ progress_of b → Progressed s shelf first input old t r new
