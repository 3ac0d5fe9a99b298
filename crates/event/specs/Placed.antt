-- What the decoder promises: the values at the places that it returns are those of the table, its numbers are in range, and its places lie
-- inside the body, with the lengths that document 01 gives their fields.
use Rattle.std.specs.Prelude.{ℕ, ◌+◌, ◌≤◌, ◌≡◌, Option, Some, None, List, length}
use Rattle.limits.specs.Limits.{TIME, WORD, NAME, BTID, UA, RES_LEAST, RES_MOST, BARE}
use Rattle.line.specs.Text.{Inside}
use Rattle.settings.specs.Placed.{SettingsPlaced}
use Rattle.event.specs.Table.{decoded}
use Rattle.event.specs.Meaning.{meaning}
use Rattle.event.specs.declared.StartAt.{StartAt}
use Rattle.event.specs.declared.VectorAt.{VectorAt}
use Rattle.event.specs.declared.ResponseAt.{ResponseAt}
use Rattle.event.specs.declared.ActAt.{ActAt}
use Rattle.event.specs.declared.ActAt.TheVariants.{Vector, Response, Abort}
use Rattle.event.specs.declared.RunAt.{RunAt}
use Rattle.event.specs.declared.KeyAt.{KeyAt}
use Rattle.event.specs.declared.KindAt.{KindAt}
use Rattle.event.specs.declared.KindAt.TheVariants.{Start, OnRun, Key}
use Rattle.event.specs.declared.EventAt.{EventAt}

pub record StartPlaced (s : List ℕ) (v : StartAt) : Type 0 where
  pub impi_inside : Inside s 1 NAME v.impi.start v.impi.end

pub record VectorPlaced (s : List ℕ) (v : VectorAt) : Type 0 where
  pub impi_inside : Inside s 1 NAME v.impi.start v.impi.end
  pub rand_inside : v.rand + BARE ≤ length s
  pub autn_inside : v.autn + BARE ≤ length s
  pub xres_inside : Inside s RES_LEAST RES_MOST v.xres.start v.xres.end
  pub ck_inside : v.ck + BARE ≤ length s
  pub ik_inside : v.ik + BARE ≤ length s
  pub settings_placed : SettingsPlaced s v.settings

pub record ResponsePlaced (s : List ℕ) (v : ResponseAt) : Type 0 where
  pub res_inside : Inside s RES_LEAST RES_MOST v.res.start v.res.end

pub record KeyPlaced (s : List ℕ) (v : KeyAt) : Type 0 where
  pub peer_inside : Inside s 1 NAME v.peer.start v.peer.end
  pub btid_inside : Inside s 1 BTID v.btid.start v.btid.end
  pub naf_inside : Inside s (1 + UA) (NAME + UA) v.naf.start v.naf.end
  pub application_most : v.application ≤ WORD

abbrev pub ActPlaced : List ℕ → ActAt → Type 0
ActPlaced s (Vector v) = VectorPlaced s v
ActPlaced s (Response v) = ResponsePlaced s v
ActPlaced s Abort = Unit {0}

pub record RunPlaced (s : List ℕ) (r : RunAt) : Type 0 where
  pub restart_most : r.restart ≤ WORD
  pub run_most : r.run ≤ WORD
  pub act_placed : ActPlaced s r.act

abbrev pub KindPlaced : List ℕ → KindAt → Type 0
KindPlaced s (Start v) = StartPlaced s v
KindPlaced s (OnRun r) = RunPlaced s r
KindPlaced s (Key v) = KeyPlaced s v

pub record EventPlaced (s : List ℕ) (e : EventAt) : Type 0 where
  pub time_most : e.time ≤ TIME
  pub kind_placed : KindPlaced s e.kind

abbrev pub Placed : List ℕ → Option EventAt → Type 0
Placed s (Some e) = EventPlaced s e
Placed s None = Unit {0}

-- The values of a body are unique, its places need not be: another decoder may return others that mean the same.
pub record Reads (s : List ℕ) (r : Option EventAt) : Type 0 where
  pub means : meaning s r ≡ decoded s
  pub placed : Placed s r
