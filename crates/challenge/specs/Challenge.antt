-- What a VECTOR brings to its run, as the records that a run keeps. 01, "Events and numbers on the line", VECTOR and Settings; "Opening, clock,
-- tables": Ks of 32 octets, CK then IK.
use Rattle.std.specs.Prelude.{ℕ, List, ◌++◌, map, length, take, replicate}
use Rattle.limits.specs.Limits.{RES_MOST, ENTRIES, USER}
use Rattle.octets.specs.Octets.{padded}
use Rattle.settings.specs.Values.{EntryValues, GivenValues, SettingsValues, not_given, as_before, given}
use Rattle.event.specs.Values.{VectorValues}
use Rattle.records.specs.Settings.{no_entry, no_settings}
use Rattle.records.specs.declared.Entry.{Entry}
use Rattle.records.specs.declared.Settings.{Settings}
use Rattle.challenge.specs.declared.Challenge.{Challenge}

abbrev pub ks_of : List ℕ → List ℕ → List ℕ
ks_of ck ik = ck ++ ik

-- the challenge, RAND and AUTN; the response expected to it; and Ks
unfoldable pub challenge_of : VectorValues → Challenge
challenge_of v = record {
  rand = v.rand;
  autn = v.autn;
  xres = padded RES_MOST v.xres;
  xlen = length v.xres;
  ks = ks_of v.ck v.ik;
}

abbrev pub entry_of : EntryValues → Entry
entry_of v = record { application = v.application; group = v.group; flags = v.flags; user = padded USER v.user; len = length v.user }

-- the entries given, and no entries after them
unfoldable pub entries_of : List EntryValues → List Entry
entries_of es = take ENTRIES (map entry_of es ++ replicate ENTRIES no_entry)

unfoldable pub settings_of : GivenValues → Settings
settings_of v = record {
  lifetime = record { 0 = v.lifetime };
  timestamp = v.timestamp;
  entries = entries_of v.entries;
}

-- with nothing given, no settings
unfoldable pub given_of : SettingsValues → Settings
given_of not_given = no_settings
given_of as_before = no_settings
given_of (given v) = settings_of v
