-- What the parts of the decoder promise, each by its line of the table.
use Rattle.std.specs.Prelude.{ℕ, ◌≤◌, ◌≡◌, Option, Some, None, List, length, eqb}
use Rattle.flow.specs.Choice.{pick}
use Rattle.limits.specs.Limits.{TIME, WORD}
use Rattle.format.specs.Read.{Read, got, bad, and_then}
use Rattle.format.specs.Format.{Format, ◌⨾◌, read}
use Rattle.event.specs.Values.{VectorValues, vector, response, abort, start, KeyValues, key, EventValues}
use Rattle.event.specs.Table.{TIMES, START, VECTOR, RESPONSE, KEY, NamedValues, NAMED, on_run_of}
use Rattle.event.specs.Meaning.{vector_means, key_means, values_at}
use Rattle.event.specs.Placed.{VectorPlaced, KeyPlaced, Placed}
use Rattle.event.specs.declared.EventAt.{EventAt}
use Rattle.event.specs.declared.VectorAt.{VectorAt}
use Rattle.event.specs.declared.KeyAt.{KeyAt}
use Rattle.event.specs.declared.Named.{Named}

-- ---- time, restart, run

abbrev pub named_read : Option Named → Read NamedValues
named_read (Some n) = got (n.time, (n.restart, n.run)) n.end
named_read None = bad

pub record NamedRanged (n : Named) : Type 0 where
  pub time_most : n.time ≤ TIME
  pub restart_most : n.restart ≤ WORD
  pub run_most : n.run ≤ WORD

abbrev pub NamedPlaced : Option Named → Type 0
NamedPlaced (Some n) = NamedRanged n
NamedPlaced None = Unit {0}

pub record NamedReads (s : List ℕ) (r : Option Named) : Type 0 where
  pub means : named_read r ≡ read NAMED s 1
  pub placed : NamedPlaced r

-- ---- the fields of a VECTOR after the run

abbrev pub vector_read : List ℕ → Option (VectorAt × ℕ) → Read VectorValues
vector_read s (Some (v, end)) = got (vector_means s v) end
vector_read s None = bad

abbrev pub VectorReadPlaced : List ℕ → Option (VectorAt × ℕ) → Type 0
VectorReadPlaced s (Some (v, end)) = VectorPlaced s v
VectorReadPlaced s None = Unit {0}

pub record VectorReads (s : List ℕ) (at : ℕ) (r : Option (VectorAt × ℕ)) : Type 0 where
  pub means : vector_read s r ≡ read VECTOR s at
  pub placed : VectorReadPlaced s r

-- ---- the fields of a KEY after time

abbrev pub key_read : List ℕ → Option (KeyAt × ℕ) → Read KeyValues
key_read s (Some (v, end)) = got (key_means s v) end
key_read s None = bad

abbrev pub KeyReadPlaced : List ℕ → Option (KeyAt × ℕ) → Type 0
KeyReadPlaced s (Some (v, end)) = KeyPlaced s v
KeyReadPlaced s None = Unit {0}

pub record KeyReads (s : List ℕ) (at : ℕ) (r : Option (KeyAt × ℕ)) : Type 0 where
  pub means : key_read s r ≡ read KEY s at
  pub placed : KeyReadPlaced s r

-- ---- a body, by its kind octet

-- nothing may follow the last field
abbrev pub end_of : List ℕ → ℕ → EventAt → Option EventAt
end_of s at e = pick (eqb at (length s)) (Some e) None

abbrev pub event_read : List ℕ → Option EventAt → Read EventValues
event_read s (Some e) = got (values_at s e) (length s)
event_read s None = bad

-- the fields of a kind after the kind octet, and nothing after them
unfoldable pub body_of : {A : Type 0} → Format A → (A → EventValues) → List ℕ → Read EventValues
body_of f event s = and_then (read f s 1) λ x end. pick (eqb end (length s)) (got (event x) end) bad

abbrev pub start_of : List ℕ → Read EventValues
start_of s = body_of (TIMES ⨾ START) (λ x. record { time = x.0; kind = start x.1 }) s

abbrev pub vector_of : List ℕ → Read EventValues
vector_of s = body_of (NAMED ⨾ VECTOR) (λ x. on_run_of x.0 (vector x.1)) s

abbrev pub response_of : List ℕ → Read EventValues
response_of s = body_of (NAMED ⨾ RESPONSE) (λ x. on_run_of x.0 (response x.1)) s

abbrev pub abort_of : List ℕ → Read EventValues
abort_of s = body_of NAMED (λ x. on_run_of x abort) s

abbrev pub key_of : List ℕ → Read EventValues
key_of s = body_of (TIMES ⨾ KEY) (λ x. record { time = x.0; kind = key x.1 }) s

-- what the reader of a kind promises, where o is what the table reads
pub record KindReads (o : Read EventValues) (s : List ℕ) (r : Option EventAt) : Type 0 where
  pub means : event_read s r ≡ o
  pub placed : Placed s r
