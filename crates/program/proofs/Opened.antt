-- An opening part that has arrived whole is read the same whatever arrives after it, and so is what is none; and the domain and the rows that it
-- says where to find are the same.
use Rattle.std.proofs.Common.{ℕ, zero, suc, ◌+◌, ◌≡◌, refl, ap, arith, List, ◌++◌, get_or, ltb, Result, Ok, Err}
use Rattle.limits.specs.Limits.{WORD, NAME, LIFETIME_LEAST, LIFETIME_MOST, GROUP, ROWS}
use Rattle.line.specs.Text.{between}
use Rattle.line.specs.declared.Span.{Span}
use Rattle.line.proofs.Texts.{text-inside}
use Rattle.shelves.specs.Shelf.{part}
use Rattle.shelves.specs.declared.Row.{Row}
use Rattle.program.specs.Cut.{text_in, with_read}
use Rattle.program.specs.OpeningPart.{row_at, rows_at, opening_part_of}
use Rattle.program.specs.Rows.{rows_of, padded_rows, shelf_of}
use Rattle.program.specs.declared.OpeningPart.{OpeningPart}
use Rattle.program.specs.declared.RowAt.{RowAt}
use Rattle.program.specs.declared.Stop.{Stop}
use Rattle.program.specs.declared.Stop.TheVariants.{Bad}
use Rattle.program.proofs.Laws.{text_back, not_read}
use Rattle.program.proofs.Ends.{row_stands, part_stands}
use Rattle.program.proofs.Arrived.{alike, between-kept, Stays, read_is, pick_stays, here-stays, read_stays, number_stays, text_stays}

-- a row, or what is none
row_kept : (s more : List ℕ) (at : ℕ) → Stays (row_at s at) (row_at (s ++ more) at)
row_kept s more at =
    read_stays _ _ _ _ (text_stays s more at 1 NAME) λ peer p.
    read_stays _ _ _ _ (text_stays s more peer.end 1 NAME) λ fqdn q.
    here-stays s more fqdn.end _ _ λ h.
    pick_stays (ltb 1 (get_or s fqdn.end 0)) (ltb 1 (get_or (s ++ more) fqdn.end 0)) (ap (ltb 1) (alike s more fqdn.end h)) (Err Bad) _ _
    (read_stays _ _ _ _ (number_stays s more (fqdn.end + 1) GROUP) λ group g.
    read_stays _ _ _ _ (number_stays s more group.1 WORD) λ required r whole.
    rw (alike s more fqdn.end h))

-- rows, or what are none
rows-kept : (n : ℕ) (s more : List ℕ) (at : ℕ) → Stays (rows_at n s at) (rows_at n (s ++ more) at)
unfolding rows_at
rows-kept zero s more at = λ whole. refl
rows-kept (suc n) s more at = read_stays _ _ _ _ (row_kept s more at) λ row e. rows-kept n s more row.end

-- the opening part, or what is none
pub opening-kept : (s more : List ℕ) → Stays (opening_part_of s) (opening_part_of (s ++ more))
unfolding opening_part_of
opening-kept s more =
    read_stays _ _ _ _ (text_stays s more 0 1 NAME) λ domain d.
    read_stays _ _ _ _ (number_stays s more domain.end WORD) λ restart r.
    read_stays _ _ _ _ (number_stays s more restart.1 LIFETIME_MOST) λ lifetime l.
    pick_stays (ltb lifetime.0 LIFETIME_LEAST) (ltb lifetime.0 LIFETIME_LEAST) refl (Err Bad) _ _
    (read_stays _ _ _ _ (number_stays s more lifetime.1 ROWS) λ rows n.
    read_stays _ _ _ _ (rows-kept rows.0 s more rows.1) λ end e whole.
    refl)

-- ---- what it says where to find

module _ (s more : List ℕ) where
  name-kept : (at : ℕ) (x : Span) → text_in s at 1 NAME ≡ Ok x → part (s ++ more) x ≡ part s x
  unfolding part
  name-kept at x e =
      let i = text-inside s at 1 NAME x.start x.end (text_back s at 1 NAME x e) in between-kept s more x.start x.end (omega (arith, i.least)) i.inside

  rows_alike : (n at end : ℕ) → rows_at n s at ≡ Ok end → rows_of n (s ++ more) at ≡ rows_of n s at
  unfolding rows_at rows_of with_read
  rows_alike zero at end e = refl
  rows_alike (suc n) at end e = go (row_at s at) refl (row_kept s more at) (rows_alike n) e
    where
      go : (x : Result RowAt Stop) → row_at s at ≡ x → Stays x (row_at (s ++ more) at)
          → ((at end : ℕ) → rows_at n s at ≡ Ok end → rows_of n (s ++ more) at ≡ rows_of n s at)
          → with_read x (λ row. rows_at n s row.end) ≡ Ok end → rows_of (suc n) (s ++ more) at ≡ rows_of (suc n) s at
      go (Ok w) e stays rest r =
          let h = row_stands s at w e in
          rw (stays (read_is w), e, name-kept at w.peer h.peer, name-kept w.peer.end w.fqdn h.fqdn, rest w.end end r)
      go (Err why) e stays rest r = absurd (not_read why end r)

  pub whole_kept : (o : OpeningPart) → opening_part_of s ≡ Ok o
      → (between (s ++ more) o.domain.start o.domain.end ≡ between s o.domain.start o.domain.end)
      × (shelf_of (s ++ more) o.rows o.at ≡ shelf_of s o.rows o.at)
  unfolding part
  whole_kept o e =
      let h = part_stands s o e in
      (name-kept 0 o.domain h.domain, ap (λ (l : List Row). record { rows = padded_rows ROWS l; count = o.rows }) (rows_alike o.rows o.at o.end h.rows))
