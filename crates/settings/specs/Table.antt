-- 01, "Events and numbers on the line": one octet, 0 none, 1 as before, 2 given. After 2 come lifetime, timestamp, a count 0 to 4, then entries.
use Rattle.std.specs.Prelude.{ℕ, ◌≡◌, refl, Bool, true, not, ◌&&◌, ◌||◌, ◌⊎◌, List, [], ◌∷◌, eqb, leb}
use Rattle.std.proofs.Common.{inl, inr}
use Rattle.limits.specs.Limits.{TIME, WORD, LIFETIME_LEAST, LIFETIME_MOST, ENTRIES, GROUP, FLAGS, USER}
use Rattle.format.specs.Read.{every}
use Rattle.format.specs.Format.{Format, number, text, bare, nothing, ◌⨾◌, many, tag, never, such, named}
use Rattle.settings.specs.Values.{EntryValues, GivenValues, SettingsValues, not_given, as_before, given}

-- application (1 or more), group (0 to 255), flags (4 bare octets), user name (text of 1 to 32)
unfoldable pub ENTRY : Format EntryValues
ENTRY =
    named EntryValues
    (number 1 WORD ⨾ number 0 GROUP ⨾ bare FLAGS ⨾ text 1 USER)
    (λ x. record { application = x.0; group = x.1.0; flags = x.1.1.0; user = x.1.1.1 })
    (λ v. (v.application, (v.group, (v.flags, v.user))))
    (λ v. refl) (λ x. refl)

-- one application and group is the other
abbrev pub is_twin : ℕ → ℕ → ℕ → ℕ → Bool
is_twin application group a g = eqb application a && eqb group g

abbrev pub twins : EntryValues → EntryValues → Bool
twins a b = is_twin a.application a.group b.application b.group

-- no two entries share application and group
unfoldable pub distinct : List EntryValues → Bool
distinct [] = true
distinct (e ∷ es) = every (λ x. not (twins e x)) es && distinct es

-- a lifetime is 0 (missing: the default holds) or 60 to 604,800 seconds
abbrev pub is_lifetime : ℕ → Bool
is_lifetime n = eqb n 0 || leb LIFETIME_LEAST n

unfoldable pub GIVEN : Format GivenValues
GIVEN =
    named GivenValues
    (such (number 0 LIFETIME_MOST) is_lifetime ⨾ number 0 TIME ⨾ such (many ENTRIES ENTRY) distinct)
    (λ x. record { lifetime = x.0; timestamp = x.1.0; entries = x.1.1 })
    (λ v. (v.lifetime, (v.timestamp, v.entries)))
    (λ v. refl) (λ x. refl)

abbrev pub Cases : Type 0
Cases = Unit {0} ⊎ (Unit {0} ⊎ (GivenValues ⊎ ⊥))

unfoldable pub to_settings : Cases → SettingsValues
to_settings (inl u) = not_given
to_settings (inr (inl u)) = as_before
to_settings (inr (inr (inl v))) = given v
to_settings (inr (inr (inr x))) = absurd x

unfoldable pub from_settings : SettingsValues → Cases
from_settings not_given = inl tt
from_settings as_before = inr (inl tt)
from_settings (given v) = inr (inr (inl v))

pub to_from : (v : SettingsValues) → to_settings (from_settings v) ≡ v
unfolding to_settings from_settings
to_from not_given = refl
to_from as_before = refl
to_from (given v) = refl

pub from_to : (x : Cases) → from_settings (to_settings x) ≡ x
unfolding to_settings from_settings
from_to (inl u) = refl
from_to (inr (inl u)) = refl
from_to (inr (inr (inl v))) = refl
from_to (inr (inr (inr x))) = absurd x

unfoldable pub SETTINGS : Format SettingsValues
SETTINGS = named SettingsValues (tag 0 nothing (tag 1 nothing (tag 2 GIVEN never))) to_settings from_settings to_from from_to
