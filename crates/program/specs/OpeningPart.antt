-- 01, "The event program": the opening part is the domain text, restart, default lifetime, row count, and rows. A field that is not there
-- asks for more input where the input ends within it; else the opening part is ill-formed or out of range.
use Rattle.std.specs.Prelude.{ℕ, zero, suc, ◌+◌, Result, Ok, Err, List, length, get_or, eqb, ltb}
use Rattle.flow.specs.Choice.{pick}
use Rattle.limits.specs.Limits.{WORD, NAME, LIFETIME_LEAST, LIFETIME_MOST, GROUP, ROWS}
use Rattle.program.specs.Cut.{number_in, text_in, with_read}
use Rattle.program.specs.declared.Stop.{Stop}
use Rattle.program.specs.declared.Stop.TheVariants.{More, Bad}
use Rattle.program.specs.declared.OpeningPart.{OpeningPart}
use Rattle.program.specs.declared.RowAt.{RowAt}

-- a row: peer text, FQDN text, identity octet 0 or 1, group, required application
abbrev pub row_at : List ℕ → ℕ → Result RowAt Stop
row_at s at =
    with_read (text_in s at 1 NAME) λ peer.
    with_read (text_in s peer.end 1 NAME) λ fqdn.
    pick (ltb fqdn.end (length s))
    (pick (ltb 1 (get_or s fqdn.end 0)) (Err Bad)
    (with_read (number_in s (fqdn.end + 1) GROUP) λ group.
    with_read (number_in s group.1 WORD) λ required.
    Ok (record { peer = peer; fqdn = fqdn; identity = eqb (get_or s fqdn.end 0) 1; group = group.0; required = required.0; end = required.1 })))
    (Err More)

-- n rows, one after another: the place after them
unfoldable pub rows_at : ℕ → List ℕ → ℕ → Result ℕ Stop
rows_at zero s at = Ok at
rows_at (suc n) s at = with_read (row_at s at) λ row. rows_at n s row.end

-- domain text, restart, default lifetime, row count, rows
unfoldable pub opening_part_of : List ℕ → Result OpeningPart Stop
opening_part_of s =
    with_read (text_in s 0 1 NAME) λ domain.
    with_read (number_in s domain.end WORD) λ restart.
    with_read (number_in s restart.1 LIFETIME_MOST) λ lifetime.
    pick (ltb lifetime.0 LIFETIME_LEAST) (Err Bad)
    (with_read (number_in s lifetime.1 ROWS) λ rows.
    with_read (rows_at rows.0 s rows.1) λ end.
    Ok (record { domain = domain; restart = restart.0; lifetime = lifetime.0; rows = rows.0; at = rows.1; end = end }))
