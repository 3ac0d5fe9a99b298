-- 01, "Events and numbers on the line", Settings: their values, by name.
use Rattle.std.specs.Prelude.{ℕ, List}

pub record EntryValues : Type 0 where
  pub application : ℕ
  pub group : ℕ
  pub flags : List ℕ
  pub user : List ℕ

pub record GivenValues : Type 0 where
  pub lifetime : ℕ
  pub timestamp : ℕ
  pub entries : List EntryValues

pub data SettingsValues : Type 0 where
  not_given : SettingsValues
  as_before : SettingsValues
  given : GivenValues → SettingsValues
