-- What the places of settings mean: the values that stand there.
use Rattle.std.specs.Prelude.{ℕ, ◌+◌, Option, Some, None, List, []}
use Rattle.limits.specs.Limits.{FLAGS}
use Rattle.line.specs.Text.{between}
use Rattle.format.specs.Read.{Read, got, bad, times}
use Rattle.format.specs.Format.{read}
use Rattle.settings.specs.Values.{EntryValues, GivenValues, SettingsValues, not_given, as_before, given}
use Rattle.settings.specs.Table.{ENTRY}
use Rattle.settings.specs.declared.EntryAt.{EntryAt}
use Rattle.settings.specs.declared.GivenAt.{GivenAt}
use Rattle.settings.specs.declared.SettingsAt.{SettingsAt}
use Rattle.settings.specs.declared.SettingsAt.TheVariants.{NotGiven, AsBefore, Given}

abbrev pub entry_means : List ℕ → EntryAt → EntryValues
entry_means s e = record {
  application = e.application;
  group = e.group;
  flags = between s e.flags (e.flags + FLAGS);
  user = between s e.user.start e.user.end;
}

abbrev pub entry_read : List ℕ → Option EntryAt → Read EntryValues
entry_read s (Some e) = got (entry_means s e) e.user.end
entry_read s None = bad

-- n entries, one after another
abbrev pub entries_at : ℕ → List ℕ → ℕ → Read (List EntryValues)
entries_at n s at = times (λ a. read ENTRY s a) n at

-- the values of a list that was read
unfoldable pub list_of : Read (List EntryValues) → List EntryValues
list_of (got xs end) = xs
list_of bad = []

abbrev pub given_means : List ℕ → GivenAt → GivenValues
given_means s v = record { lifetime = v.lifetime; timestamp = v.timestamp; entries = list_of (entries_at v.count s v.entries) }

abbrev pub settings_means : List ℕ → SettingsAt → SettingsValues
settings_means s NotGiven = not_given
settings_means s AsBefore = as_before
settings_means s (Given v) = given (given_means s v)

abbrev pub settings_read : List ℕ → Option (SettingsAt × ℕ) → Read SettingsValues
settings_read s (Some (v, end)) = got (settings_means s v) end
settings_read s None = bad
