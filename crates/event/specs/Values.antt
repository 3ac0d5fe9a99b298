-- 01, "Events and numbers on the line": the values of an event, by name. Every event has a time; those of kinds 2 to 4 name a run of an opening.
use Rattle.std.specs.Prelude.{ℕ, List}
use Rattle.settings.specs.Values.{SettingsValues}

pub record StartValues : Type 0 where
  pub impi : List ℕ

pub record VectorValues : Type 0 where
  pub impi : List ℕ
  pub rand : List ℕ
  pub autn : List ℕ
  pub xres : List ℕ
  pub ck : List ℕ
  pub ik : List ℕ
  pub settings : SettingsValues

pub record ResponseValues : Type 0 where
  pub res : List ℕ

-- what comes for a run
pub data ActValues : Type 0 where
  vector : VectorValues → ActValues
  response : ResponseValues → ActValues
  abort : ActValues

pub record RunValues : Type 0 where
  pub restart : ℕ
  pub run : ℕ
  pub act : ActValues

pub record KeyValues : Type 0 where
  pub peer : List ℕ
  pub btid : List ℕ
  pub naf : List ℕ
  pub application : ℕ

pub data KindValues : Type 0 where
  start : StartValues → KindValues
  on_run : RunValues → KindValues
  key : KeyValues → KindValues

pub record EventValues : Type 0 where
  pub time : ℕ
  pub kind : KindValues
