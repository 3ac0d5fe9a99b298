-- What an answered event makes of the state, in place, is what `stored` makes of it by value.
use mathlib.Core.Path.{◌≡◌, refl, ap}
use Prim.Native.Nat.{ℕ}
use Rattle.records.specs.Rows.{no_run}
use Rattle.records.specs.declared.Run.{Run}
use Rattle.records.specs.declared.Session.{Session}
use Rattle.tables.specs.Tables.{put_run}
use Rattle.tables.specs.State.{session_at, after_of, stored, started, filled, ended, established}
use Rattle.tables.specs.declared.State.{State}
use Rattle.tables.proofs.SessionLaws.{session-put-same}

-- START: the run is stored, and a session stays where it is
pub stored_started : (s : State) (t i : ℕ) (r : Run) (j : ℕ) → stored s t r.number i r j (session_at s j) ≡ started s t i r
unfolding stored started
stored_started s t i r j = ap (λ x. after_of s t r.number (put_run s.runs i r) x) (session-put-same s.sessions j)

-- VECTOR
pub stored_filled : (s : State) (t i : ℕ) (r : Run) (j : ℕ) → stored s t s.last i r j (session_at s j) ≡ filled s t i r
unfolding stored filled
stored_filled s t i r j = ap (λ x. after_of s t s.last (put_run s.runs i r) x) (session-put-same s.sessions j)

-- ABORT, or a wrong RES
pub stored_ended : (s : State) (t i j : ℕ) → stored s t s.last i no_run j (session_at s j) ≡ ended s t i
unfolding stored ended
stored_ended s t i j = ap (λ x. after_of s t s.last (put_run s.runs i no_run) x) (session-put-same s.sessions j)

-- a right RES
pub stored_established : (s : State) (t i j : ℕ) (x : Session) → stored s t s.last i no_run j x ≡ established s t i j x
unfolding stored established
stored_established s t i j x = refl
