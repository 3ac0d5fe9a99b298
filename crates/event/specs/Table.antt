-- 01, "Events and numbers on the line": an event is one of five kinds, each with its own fields after the kind octet. Nothing may follow the last
-- field.
use Rattle.std.specs.Prelude.{ℕ, ◌+◌, ◌≡◌, refl, ◌⊎◌, List}
use Rattle.std.proofs.Common.{inl, inr}
use Rattle.std.specs.Prelude.{Option, None, Some}
use Rattle.limits.specs.Limits.{TIME, WORD, NAME, BTID, UA, RES_LEAST, RES_MOST, BARE}
use Rattle.format.specs.Read.{Read, got, bad}
use Rattle.format.specs.Format.{Format, number, text, bare, ◌⨾◌, tag, never, named, decode}
use Rattle.settings.specs.Table.{SETTINGS}
use Rattle.event.specs.Values.{StartValues, VectorValues, ResponseValues, ActValues, vector, response, abort}
use Rattle.event.specs.Values.{KeyValues, KindValues, start, on_run, key, EventValues}

-- ---- fields that several kinds have

abbrev pub TIMES : Format ℕ
TIMES = number 0 TIME

abbrev pub WORDS : Format ℕ
WORDS = number 0 WORD

abbrev pub NAMES : Format (List ℕ)
NAMES = text 1 NAME

-- ---- the fields of each kind, after time; of kinds 2 to 4 after time, restart, run

-- 1 START: time, IMPI
unfoldable pub START : Format StartValues
START = named StartValues NAMES (λ x. record { impi = x }) (λ v. v.impi) (λ v. refl) (λ x. refl)

-- 2 VECTOR: time, restart, run, IMPI, RAND, AUTN, XRES, CK, IK, settings
unfoldable pub VECTOR : Format VectorValues
VECTOR =
    named VectorValues
    (NAMES ⨾ bare BARE ⨾ bare BARE ⨾ text RES_LEAST RES_MOST ⨾ bare BARE ⨾ bare BARE ⨾ SETTINGS)
    (λ x. record {
      impi = x.0;
      rand = x.1.0;
      autn = x.1.1.0;
      xres = x.1.1.1.0;
      ck = x.1.1.1.1.0;
      ik = x.1.1.1.1.1.0;
      settings = x.1.1.1.1.1.1;
    })
    (λ v. (v.impi, (v.rand, (v.autn, (v.xres, (v.ck, (v.ik, v.settings)))))))
    (λ v. refl) (λ x. refl)

-- 3 RESPONSE: time, restart, run, RES
unfoldable pub RESPONSE : Format ResponseValues
RESPONSE = named ResponseValues (text RES_LEAST RES_MOST) (λ x. record { res = x }) (λ v. v.res) (λ v. refl) (λ x. refl)

-- 4 ABORT: time, restart, run

-- 5 KEY: time, peer, B-TID, NAF_Id, application; the NAF_Id is the FQDN and five octets of Ua security protocol identifier
unfoldable pub KEY : Format KeyValues
KEY =
    named KeyValues
    (NAMES ⨾ text 1 BTID ⨾ text (1 + UA) (NAME + UA) ⨾ WORDS)
    (λ x. record { peer = x.0; btid = x.1.0; naf = x.1.1.0; application = x.1.1.1 })
    (λ v. (v.peer, (v.btid, (v.naf, v.application))))
    (λ v. refl) (λ x. refl)

-- ---- an event: the kind octet, and the fields of the kind

-- time, restart, run
abbrev pub NamedValues : Type 0
NamedValues = ℕ × (ℕ × ℕ)

abbrev pub NAMED : Format NamedValues
NAMED = TIMES ⨾ WORDS ⨾ WORDS

abbrev pub Kinds : Type 0
Kinds =
    (ℕ × StartValues) ⊎ ((NamedValues × VectorValues) ⊎ ((NamedValues × ResponseValues) ⊎ (NamedValues ⊎ ((ℕ × KeyValues) ⊎ ⊥))))

abbrev pub on_run_of : NamedValues → ActValues → EventValues
on_run_of n act = record { time = n.0; kind = on_run (record { restart = n.1.0; run = n.1.1; act = act }) }

unfoldable pub to_event : Kinds → EventValues
to_event (inl x) = record { time = x.0; kind = start x.1 }
to_event (inr (inl x)) = on_run_of x.0 (vector x.1)
to_event (inr (inr (inl x))) = on_run_of x.0 (response x.1)
to_event (inr (inr (inr (inl x)))) = on_run_of x abort
to_event (inr (inr (inr (inr (inl x))))) = record { time = x.0; kind = key x.1 }
to_event (inr (inr (inr (inr (inr x))))) = absurd x

unfoldable pub from_act : NamedValues → ActValues → Kinds
from_act n (vector v) = inr (inl (n, v))
from_act n (response v) = inr (inr (inl (n, v)))
from_act n abort = inr (inr (inr (inl n)))

unfoldable pub from_kind : ℕ → KindValues → Kinds
from_kind time (start v) = inl (time, v)
from_kind time (on_run r) = from_act (time, (r.restart, r.run)) r.act
from_kind time (key v) = inr (inr (inr (inr (inl (time, v)))))

abbrev pub from_event : EventValues → Kinds
from_event e = from_kind e.time e.kind

to_from_act : (n : NamedValues) (a : ActValues) → to_event (from_act n a) ≡ on_run_of n a
unfolding to_event from_act
to_from_act n (vector v) = refl
to_from_act n (response v) = refl
to_from_act n abort = refl

to_from_kind : (time : ℕ) (k : KindValues) → to_event (from_kind time k) ≡ record { time = time; kind = k }
unfolding to_event from_kind
to_from_kind time (start v) = refl
to_from_kind time (on_run r) = to_from_act (time, (r.restart, r.run)) r.act
to_from_kind time (key v) = refl

pub to_from : (e : EventValues) → to_event (from_event e) ≡ e
to_from e = to_from_kind e.time e.kind

pub from_to : (x : Kinds) → from_event (to_event x) ≡ x
unfolding to_event from_kind from_act
from_to (inl x) = refl
from_to (inr (inl x)) = refl
from_to (inr (inr (inl x))) = refl
from_to (inr (inr (inr (inl x)))) = refl
from_to (inr (inr (inr (inr (inl x))))) = refl
from_to (inr (inr (inr (inr (inr x))))) = absurd x

-- a further field is a factor more of its kind, and a further kind a `tag` more with its octet
unfoldable pub EVENT : Format EventValues
EVENT =
    named EventValues
    (tag 1 (TIMES ⨾ START) (tag 2 (NAMED ⨾ VECTOR) (tag 3 (NAMED ⨾ RESPONSE) (tag 4 NAMED (tag 5 (TIMES ⨾ KEY) never)))))
    to_event from_event to_from from_to

-- ---- a body

unfoldable pub value_of : {A : Type 0} → Read A → Option A
value_of (got a next) = Some a
value_of bad = None

-- the event of a body; none where the body is not as laid out
unfoldable pub decoded : List ℕ → Option EventValues
decoded body = value_of (decode EVENT body)
