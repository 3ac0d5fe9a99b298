-- 01, "The event program": the rows as the shelf holds them.
use Rattle.std.specs.Prelude.{ℕ, zero, suc, Result, Ok, Err, List, [], ◌∷◌, ◌++◌, take, replicate}
use Rattle.names.specs.Name.{name_of}
use Rattle.limits.specs.Limits.{ROWS}
use Rattle.shelves.specs.Shelf.{no_row, part}
use Rattle.shelves.specs.declared.Row.{Row}
use Rattle.shelves.specs.declared.Shelf.{Shelf}
use Rattle.program.specs.OpeningPart.{row_at}
use Rattle.program.specs.declared.Placed.{Placed}
use Rattle.program.specs.declared.RowAt.{RowAt}
use Rattle.program.specs.declared.Stop.{Stop}

-- a row whose names stand in s
abbrev pub row_of : List ℕ → RowAt → Row
row_of s w = record { peer = name_of (part s w.peer); fqdn = name_of (part s w.fqdn); identity = w.identity; group = w.group; required = w.required }

-- the row that was read, and the place after it; where no row stands, one that matches nothing
abbrev pub placed_as : List ℕ → ℕ → Result RowAt Stop → Placed
placed_as s at (Ok w) = record { row = row_of s w; end = w.end }
placed_as s at (Err e) = record { row = no_row; end = at }

abbrev pub placed : List ℕ → ℕ → Placed
placed s at = placed_as s at (row_at s at)

-- n rows, one after another
unfoldable pub rows_of : ℕ → List ℕ → ℕ → List Row
rows_of zero s at = []
rows_of (suc n) s at = (placed s at).row ∷ rows_of n s (placed s at).end

-- so many rows: those given, and after them rows that match nothing
unfoldable pub padded_rows : ℕ → List Row → List Row
padded_rows n rows = take n (rows ++ replicate n no_row)

abbrev pub shelf_of : List ℕ → ℕ → ℕ → Shelf
shelf_of s count at = record { rows = padded_rows ROWS (rows_of count s at); count = count }
