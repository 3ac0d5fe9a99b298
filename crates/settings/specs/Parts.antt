-- What the parts of the reader of settings promise: entries without twins, and what stands after the octet GIVEN.
use Rattle.std.specs.Prelude.{ℕ, ◌≡◌, Bool, false, not, Option, Some, None, List}
use Rattle.flow.specs.Choice.{pick}
use Rattle.format.specs.Read.{Read, got, bad, every}
use Rattle.format.specs.Format.{read}
use Rattle.settings.specs.Values.{EntryValues, GivenValues}
use Rattle.settings.specs.Table.{GIVEN, is_twin, distinct}
use Rattle.settings.specs.Meaning.{given_means}
use Rattle.settings.specs.Placed.{GivenPlaced}
use Rattle.settings.specs.declared.GivenAt.{GivenAt}

-- entries were read, none of which has this application and group
unfoldable pub no_twin : ℕ → ℕ → Read (List EntryValues) → Bool
no_twin application group (got es end) = every (λ e. not (is_twin application group e.application e.group)) es
no_twin application group bad = false

-- where a list that was read ends, if no two of its entries share application and group
unfoldable pub distinct_end : Read (List EntryValues) → Option ℕ
distinct_end (got es end) = pick (distinct es) (Some end) None
distinct_end bad = None

-- what is given, by where it stands
abbrev pub given_read : List ℕ → Option (GivenAt × ℕ) → Read GivenValues
given_read s (Some (v, end)) = got (given_means s v) end
given_read s None = bad

abbrev pub GivenReadPlaced : List ℕ → Option (GivenAt × ℕ) → Type 0
GivenReadPlaced s (Some (v, end)) = GivenPlaced s v
GivenReadPlaced s None = Unit {0}

-- what is given stands here; or it is bad
pub record GivenReads (s : List ℕ) (at : ℕ) (r : Option (GivenAt × ℕ)) : Type 0 where
  pub means : given_read s r ≡ read GIVEN s at
  pub placed : GivenReadPlaced s r
