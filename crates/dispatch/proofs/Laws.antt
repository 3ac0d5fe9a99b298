-- What a VECTOR brings: settings, where they are not to be as before.
use mathlib.Core.Path.{◌≡◌, refl}
use Rattle.std.specs.Prelude.{ℕ, Some, List}
use Rattle.settings.specs.Meaning.{settings_means}
use Rattle.settings.specs.declared.SettingsAt.{SettingsAt}
use Rattle.settings.specs.declared.SettingsAt.TheVariants.{NotGiven, AsBefore, Given}
use Rattle.challenge.specs.Challenge.{given_of}
use Rattle.vector.specs.Turns.{brought_of}

pub brings : (s : List ℕ) (v : SettingsAt) → (v ≡ AsBefore → ⊥) → Some (given_of (settings_means s v)) ≡ brought_of (settings_means s v)
unfolding given_of brought_of
brings s NotGiven n = refl
brings s AsBefore n = absurd (n refl)
brings s (Given v) n = refl
