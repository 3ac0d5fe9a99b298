-- 01, "The event program": events are answered one after another, each on the state last handed back, and each prints a line.
use Rattle.std.specs.Prelude.{ℕ, ◌+◌, ◌≤◌, ◌<◌, ◌≡◌, Ok, Err, List, [], length, take}
use Rattle.flow.specs.Refusals.{FORM}
use Rattle.flow.specs.Result.{Result, refused, ok, map_r}
use Rattle.flow.specs.declared.Reply.{Reply}
use Rattle.flow.specs.Front.{◌▹◌, Put, Wrote}
use Rattle.line.specs.Text.{between}
use Rattle.line.specs.declared.Span.{Span}
use Rattle.limits.specs.Limits.{ROOM, LINE}
use Rattle.shelves.specs.declared.Shelf.{Shelf}
use Rattle.tables.specs.declared.State.{State}
use Rattle.outcome.specs.Outcome.{Done, octets_of, state_of}
use Rattle.rules.specs.History.{event_of}
use Rattle.program.specs.Frame.{frame_at}
use Rattle.program.specs.declared.Stop.TheVariants.{More as StopMore, Bad as StopBad}
use Rattle.program.specs.Printed.{line_of}
use Rattle.batch.specs.declared.Why.{Why}
use Rattle.batch.specs.declared.Why.TheVariants.{More, Full, Bad}
use Rattle.batch.specs.declared.Batch.{Batch}

-- what an event does, with the rows of the shelf
abbrev pub done_of : State → Shelf → List ℕ → Result Done
done_of s shelf body = event_of s (take shelf.count shelf.rows) body ROOM

abbrev pub next_of : State → Shelf → List ℕ → State
next_of s shelf body = state_of s (done_of s shelf body)

-- its line: the returned number, and the answer, if there is one
unfoldable pub line_told : ℕ → Result (List ℕ) → List ℕ
line_told place (refused n) = line_of place n []
line_told place (ok x) = line_of place 0 x

abbrev pub event_line : ℕ → State → Shelf → List ℕ → List ℕ
event_line place s shelf body = line_told place (map_r octets_of (done_of s shelf body))

-- a bad length prints its place with "3 -"
abbrev pub bad_line : ℕ → List ℕ
bad_line place = line_of place FORM []

-- the line of a reply stands from at up to end, no longer than there is room; buffer is what the reply's answer was written to
pub record Lined (place : ℕ) (reply : Reply) (buffer : List ℕ) (at end : ℕ) (old new : List ℕ) : Type 0 where
  pub line : Put (line_of place reply.no (take reply.len buffer)) at end old new
  pub fits : end ≤ at + LINE

-- the body of a frame
abbrev pub body_of : List ℕ → Span → List ℕ
body_of input x = between input x.start x.end

-- the events of an input from a place on, one after another, with room for a line before each: their lines, the state that they leave, and
-- where the next event starts and its place
pub data Ran (shelf : Shelf) (input : List ℕ) (room : ℕ) (s : State) (from first : ℕ) : List ℕ → State → ℕ → ℕ → Type 0 where
  none : Ran shelf input room s from first [] s from first
  one : {lines : List ℕ} {t : State} {at place : ℕ} (x : Span) → Ran shelf input room s from first lines t at place
      → length lines + LINE ≤ room → frame_at input at ≡ Ok x
      → Ran shelf input room s from first (lines ▹ event_line place t shelf (body_of input x)) (next_of t shelf (body_of input x)) x.end (place + 1)

-- why the next event was not answered, and the line that says so; the room is looked at before the event
unfoldable pub last_line : Why → ℕ → List ℕ
last_line More place = []
last_line Full place = []
last_line Bad place = bad_line place

unfoldable pub Ended : Why → List ℕ → ℕ → ℕ → ℕ → Type 0
Ended More input room at len = (len + LINE ≤ room) × (frame_at input at ≡ Err StopMore)
Ended Full input room at len = room < len + LINE
Ended Bad input room at len = (len + LINE ≤ room) × (frame_at input at ≡ Err StopBad)

-- a batch: its events were answered and left the state t, their lines stand at the front, and the next event was not answered for the reason that r gives
pub record Served (shelf : Shelf) (input : List ℕ) (s : State) (from first : ℕ) (t : State) (r : Batch) (old new : List ℕ) : Type 0 where
  pub lines : List ℕ
  pub ran : Ran shelf input (length old) s from first lines t r.at r.place
  pub ended : Ended r.why input (length old) r.at (length lines)
  pub wrote : Wrote (lines ▹ last_line r.why r.place) r.len old new
  pub inside : r.at ≤ length input
  pub fits : r.len ≤ length old
