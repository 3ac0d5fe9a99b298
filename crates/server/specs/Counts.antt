-- The row that counts for an event: what it says is what the whole shelf table says, as far as the event's rule asks. And where a body names the shelf
-- that asks.
use Rattle.std.specs.Prelude.{ℕ, ◌≡◌, Option, List}
use Rattle.event.specs.Values.{EventValues}
use Rattle.event.specs.Table.{decoded}
use Rattle.shelves.specs.Shelf.{part}
use Rattle.shelves.specs.declared.Asked.{Asked}
use Rattle.shelves.specs.declared.Policy.{Policy}
use Rattle.shelves.specs.declared.Row.{Row}
use Rattle.tables.specs.declared.State.{State}
use Rattle.rules.specs.Server.{step_of, policy_for, asked_in, fqdn_of}

-- on every state, and with a buffer of every length, the event does by this policy what it does by the rows
abbrev pub Counts : List Row → Option EventValues → Policy → Type 0
Counts rows e w = (s : State) (room : ℕ) → step_of s w e room ≡ step_of s (policy_for rows e) e room

-- the peer and the FQDN that a body asks for stand there
pub record AsksShelf (body : List ℕ) (a : Asked) : Type 0 where
  pub peer_is : part body a.peer ≡ (asked_in (decoded body)).peer
  pub fqdn_is : part body a.fqdn ≡ fqdn_of (asked_in (decoded body)).naf
