-- What the places of an event mean: the values that stand there.
use Rattle.std.specs.Prelude.{ℕ, ◌+◌, List}
use Rattle.std.specs.Prelude.{Option, None, Some}
use Rattle.limits.specs.Limits.{BARE}
use Rattle.line.specs.Text.{between}
use Rattle.settings.specs.Meaning.{settings_means}
use Rattle.event.specs.Values.{StartValues, VectorValues, ResponseValues, ActValues, vector, response, abort}
use Rattle.event.specs.Values.{RunValues, KeyValues, KindValues, start, on_run, key, EventValues}
use Rattle.event.specs.declared.StartAt.{StartAt}
use Rattle.event.specs.declared.VectorAt.{VectorAt}
use Rattle.event.specs.declared.ResponseAt.{ResponseAt}
use Rattle.event.specs.declared.ActAt.{ActAt}
use Rattle.event.specs.declared.ActAt.TheVariants.{Vector, Response, Abort}
use Rattle.event.specs.declared.RunAt.{RunAt}
use Rattle.event.specs.declared.KeyAt.{KeyAt}
use Rattle.event.specs.declared.KindAt.{KindAt}
use Rattle.event.specs.declared.KindAt.TheVariants.{Start, OnRun, Key}
use Rattle.event.specs.declared.EventAt.{EventAt}

abbrev pub start_means : List ℕ → StartAt → StartValues
start_means s v = record { impi = between s v.impi.start v.impi.end }

abbrev pub vector_means : List ℕ → VectorAt → VectorValues
vector_means s v = record {
  impi = between s v.impi.start v.impi.end;
  rand = between s v.rand (v.rand + BARE);
  autn = between s v.autn (v.autn + BARE);
  xres = between s v.xres.start v.xres.end;
  ck = between s v.ck (v.ck + BARE);
  ik = between s v.ik (v.ik + BARE);
  settings = settings_means s v.settings;
}

abbrev pub response_means : List ℕ → ResponseAt → ResponseValues
response_means s v = record { res = between s v.res.start v.res.end }

abbrev pub key_means : List ℕ → KeyAt → KeyValues
key_means s v = record {
  peer = between s v.peer.start v.peer.end;
  btid = between s v.btid.start v.btid.end;
  naf = between s v.naf.start v.naf.end;
  application = v.application;
}

abbrev pub act_means : List ℕ → ActAt → ActValues
act_means s (Vector v) = vector (vector_means s v)
act_means s (Response v) = response (response_means s v)
act_means s Abort = abort

abbrev pub run_means : List ℕ → RunAt → RunValues
run_means s r = record { restart = r.restart; run = r.run; act = act_means s r.act }

abbrev pub kind_means : List ℕ → KindAt → KindValues
kind_means s (Start v) = start (start_means s v)
kind_means s (OnRun r) = on_run (run_means s r)
kind_means s (Key v) = key (key_means s v)

abbrev pub values_at : List ℕ → EventAt → EventValues
values_at s e = record { time = e.time; kind = kind_means s e.kind }

abbrev pub meaning : List ℕ → Option EventAt → Option EventValues
meaning s (Some e) = Some (values_at s e)
meaning s None = None
