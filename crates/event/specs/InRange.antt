-- What is read of an event is in the ranges of document 01.
use Rattle.std.specs.Prelude.{◌+◌, ◌≤◌, ◌≡◌, true, List, [], ◌∷◌, length}
use Rattle.limits.specs.Limits.{TIME, WORD, NAME, BTID, UA, RES_LEAST, RES_MOST, BARE, LIFETIME_MOST, ENTRIES, GROUP, FLAGS, USER}
use Rattle.line.specs.Text.{Sized}
use Rattle.settings.specs.Values.{EntryValues, GivenValues, SettingsValues, not_given, as_before, given}
use Rattle.settings.specs.Table.{is_lifetime, distinct}
use Rattle.event.specs.Values.{StartValues, VectorValues, ResponseValues, ActValues, vector, response, abort}
use Rattle.event.specs.Values.{RunValues, KeyValues, KindValues, start, on_run, key, EventValues}

pub record EntryRanged (v : EntryValues) : Type 0 where
  pub application_least : 1 ≤ v.application
  pub application_most : v.application ≤ WORD
  pub group_most : v.group ≤ GROUP
  pub flags_long : length v.flags ≡ FLAGS
  pub user_sized : Sized 1 USER v.user

abbrev pub EntriesRanged : List EntryValues → Type 0
EntriesRanged [] = Unit {0}
EntriesRanged (e ∷ es) = EntryRanged e × EntriesRanged es

pub record GivenRanged (v : GivenValues) : Type 0 where
  pub lifetime_least : is_lifetime v.lifetime ≡ true
  pub lifetime_most : v.lifetime ≤ LIFETIME_MOST
  pub timestamp_most : v.timestamp ≤ TIME
  pub count_most : length v.entries ≤ ENTRIES
  pub entries_ranged : EntriesRanged v.entries
  pub entries_distinct : distinct v.entries ≡ true

abbrev pub SettingsRanged : SettingsValues → Type 0
SettingsRanged not_given = Unit {0}
SettingsRanged as_before = Unit {0}
SettingsRanged (given v) = GivenRanged v

pub record StartRanged (v : StartValues) : Type 0 where
  pub impi_sized : Sized 1 NAME v.impi

pub record VectorRanged (v : VectorValues) : Type 0 where
  pub impi_sized : Sized 1 NAME v.impi
  pub rand_long : length v.rand ≡ BARE
  pub autn_long : length v.autn ≡ BARE
  pub xres_sized : Sized RES_LEAST RES_MOST v.xres
  pub ck_long : length v.ck ≡ BARE
  pub ik_long : length v.ik ≡ BARE
  pub settings_ranged : SettingsRanged v.settings

pub record ResponseRanged (v : ResponseValues) : Type 0 where
  pub res_sized : Sized RES_LEAST RES_MOST v.res

abbrev pub ActRanged : ActValues → Type 0
ActRanged (vector v) = VectorRanged v
ActRanged (response v) = ResponseRanged v
ActRanged abort = Unit {0}

pub record RunRanged (r : RunValues) : Type 0 where
  pub restart_most : r.restart ≤ WORD
  pub run_most : r.run ≤ WORD
  pub act_ranged : ActRanged r.act

pub record KeyRanged (v : KeyValues) : Type 0 where
  pub peer_sized : Sized 1 NAME v.peer
  pub btid_sized : Sized 1 BTID v.btid
  pub naf_sized : Sized (1 + UA) (NAME + UA) v.naf
  pub application_most : v.application ≤ WORD

abbrev pub KindRanged : KindValues → Type 0
KindRanged (start v) = StartRanged v
KindRanged (on_run r) = RunRanged r
KindRanged (key v) = KeyRanged v

pub record InRange (e : EventValues) : Type 0 where
  pub time_most : e.time ≤ TIME
  pub kind_ranged : KindRanged e.kind
