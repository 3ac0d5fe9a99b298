-- The round trips of events: the laws of formats, at the table.
use Prim.Native.Nat.{ℕ}
use mathlib.Core.Path.{◌≡◌, refl, ap}
use mathlib.Core.Bool.{true}
use mathlib.Core.List.{List, ◌++◌}
use Rattle.std.specs.Prelude.{Some}
use Rattle.line.specs.Number.{Octets}
use Rattle.format.specs.Format.{octets, fits, good, apart}
use Rattle.format.proofs.Laws.{decode_written, Whole, decode_whole, prefix_free}
use Rattle.settings.specs.Table.{SETTINGS, GIVEN, ENTRY}
use Rattle.event.specs.Values.{EventValues}
use Rattle.event.specs.Table.{EVENT, START, VECTOR, RESPONSE, KEY, value_of, decoded}
use Rattle.event.proofs.Ranges.{decoded-got}

-- the table's numbers are in range, and its octets apart
pub event-good : good EVENT ≡ true
unfolding good apart EVENT START VECTOR RESPONSE KEY SETTINGS GIVEN ENTRY
event-good = refl

-- what was written is read
pub event_read_lem : (e : EventValues) → fits EVENT e ≡ true → decoded (octets EVENT e) ≡ Some e
unfolding decoded value_of
event_read_lem e ok = ap value_of (decode_written EVENT e event-good ok)

-- what is read was written, and is in range
pub event_written : (body : List ℕ) (e : EventValues) → Octets body → decoded body ≡ Some e → Whole EVENT body e
event_written body e o p = let g = decoded-got body e p in decode_whole EVENT body e g.end o g.is

-- no event's octets begin another's
pub event_alone : (d e : EventValues) (t u : List ℕ) → fits EVENT d ≡ true → fits EVENT e ≡ true → octets EVENT d ++ t ≡ octets EVENT e ++ u → d ≡ e
event_alone d e t u p q h = prefix_free EVENT d e t u event-good p q h
