-- What the readers of settings promise: the values at the places that they return are those of the table, and the places lie inside the body,
-- with the lengths that document 01 gives their fields.
use Rattle.std.specs.Prelude.{ℕ, ◌+◌, ◌≤◌, ◌≡◌, Option, Some, None, List, length}
use Rattle.limits.specs.Limits.{TIME, WORD, LIFETIME_MOST, ENTRIES, GROUP, FLAGS, USER}
use Rattle.line.specs.Text.{Inside}
use Rattle.format.specs.Read.{got}
use Rattle.format.specs.Format.{read}
use Rattle.settings.specs.Table.{ENTRY, SETTINGS}
use Rattle.settings.specs.Meaning.{entry_read, entries_at, list_of, settings_read}
use Rattle.settings.specs.declared.EntryAt.{EntryAt}
use Rattle.settings.specs.declared.GivenAt.{GivenAt}
use Rattle.settings.specs.declared.SettingsAt.{SettingsAt}
use Rattle.settings.specs.declared.SettingsAt.TheVariants.{NotGiven, AsBefore, Given}

pub record EntryPlaced (s : List ℕ) (e : EntryAt) : Type 0 where
  pub application_least : 1 ≤ e.application
  pub application_most : e.application ≤ WORD
  pub group_most : e.group ≤ GROUP
  pub flags_inside : e.flags + FLAGS ≤ length s
  pub user_inside : Inside s 1 USER e.user.start e.user.end

abbrev pub EntryReadPlaced : List ℕ → Option EntryAt → Type 0
EntryReadPlaced s (Some e) = EntryPlaced s e
EntryReadPlaced s None = Unit {0}

pub record EntryReads (s : List ℕ) (at : ℕ) (r : Option EntryAt) : Type 0 where
  pub means : entry_read s r ≡ read ENTRY s at
  pub placed : EntryReadPlaced s r

-- n entries stand from a place on, and end somewhere
pub record EntriesStand (s : List ℕ) (n at : ℕ) : Type 0 where
  pub end : ℕ
  pub stand : entries_at n s at ≡ got (list_of (entries_at n s at)) end

pub record GivenPlaced (s : List ℕ) (v : GivenAt) : Type 0 where
  pub lifetime_most : v.lifetime ≤ LIFETIME_MOST
  pub timestamp_most : v.timestamp ≤ TIME
  pub count_most : v.count ≤ ENTRIES
  pub entries_stand : EntriesStand s v.count v.entries

abbrev pub SettingsPlaced : List ℕ → SettingsAt → Type 0
SettingsPlaced s NotGiven = Unit {0}
SettingsPlaced s AsBefore = Unit {0}
SettingsPlaced s (Given v) = GivenPlaced s v

abbrev pub SettingsReadPlaced : List ℕ → Option (SettingsAt × ℕ) → Type 0
SettingsReadPlaced s (Some (v, end)) = SettingsPlaced s v
SettingsReadPlaced s None = Unit {0}

pub record SettingsReads (s : List ℕ) (at : ℕ) (r : Option (SettingsAt × ℕ)) : Type 0 where
  pub means : settings_read s r ≡ read SETTINGS s at
  pub placed : SettingsReadPlaced s r
