-- 01, "What goes back": the refusals by name. Checks run in this order; the first that applies decides.
use Rattle.std.specs.Prelude.{ℕ}
use Rattle.flow.specs.declared.Refusal.{Refusal}
use Rattle.flow.specs.declared.Refusal.TheVariants.{NotOpen, Short, Form, Clock, Spent, NoRun, Stale, Twice, Other, NoCopy, RandSeen, Early, NoSession, NotYours, NoBtid, Policy}

-- opening values out of range; any event on the closed state that this opening returns
abbrev pub NOT_OPEN : ℕ
NOT_OPEN = 1

-- answer buffer too short
abbrev pub SHORT : ℕ
SHORT = 2

-- body not as laid out
abbrev pub FORM : ℕ
FORM = 3

-- time below the recorded time
abbrev pub CLOCK : ℕ
CLOCK = 4

-- START, the last run number was given
abbrev pub SPENT : ℕ
SPENT = 5

-- START, as many runs are open as may be
abbrev pub NO_RUN : ℕ
NO_RUN = 6

-- kinds 2 to 4: other restart, or no open run of that number
abbrev pub STALE : ℕ
STALE = 7

-- VECTOR, run already challenged
abbrev pub TWICE : ℕ
TWICE = 8

-- VECTOR, IMPI isn't the run's
abbrev pub OTHER : ℕ
OTHER = 9

-- "as before", nothing was offered
abbrev pub NO_COPY : ℕ
NO_COPY = 10

-- RAND of a live session or of another open challenged run
abbrev pub RAND_SEEN : ℕ
RAND_SEEN = 11

-- RESPONSE before the challenge
abbrev pub EARLY : ℕ
EARLY = 12

-- right RES, as many sessions are live as may be, none of this IMPI
abbrev pub NO_SESSION : ℕ
NO_SESSION = 13

-- KEY, no row for peer and FQDN
abbrev pub NOT_YOURS : ℕ
NOT_YOURS = 14

-- KEY, no live session of that exact text
abbrev pub NO_BTID : ℕ
NO_BTID = 15

-- KEY, required application with the row's group absent
abbrev pub POLICY : ℕ
POLICY = 16

-- the number of a refusal
abbrev pub number : Refusal → ℕ
number NotOpen = NOT_OPEN
number Short = SHORT
number Form = FORM
number Clock = CLOCK
number Spent = SPENT
number NoRun = NO_RUN
number Stale = STALE
number Twice = TWICE
number Other = OTHER
number NoCopy = NO_COPY
number RandSeen = RAND_SEEN
number Early = EARLY
number NoSession = NO_SESSION
number NotYours = NOT_YOURS
number NoBtid = NO_BTID
number Policy = POLICY
