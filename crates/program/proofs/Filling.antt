-- How the shelf is filled: the rows read so far, and those that are left.
use Rattle.std.proofs.Common.{ℕ, suc, ◌+◌, ◌-◌, ◌<◌, ◌≤◌, min, ◌≡◌, refl, sym, ap, ◌∙◌, ⊎_elim, arith, List, [], ◌∷◌, ◌++◌, append-nil, append_assoc, length, set, replicate, leb}
use native.Mathlib.Nat.{sub-zero, min-eq_left, min-eq_right}
use lib.ListN.{length-append}
use lib.Seq.{take-append-le}
use borrow.Author.Tests.{leb-true, leb-false}
use Rattle.flow.proofs.Choices.{split}
use Rattle.flow.proofs.Tables.{set_next}
use Rattle.limits.specs.Limits.{ROWS}
use Rattle.shelves.specs.Shelf.{no_row}
use Rattle.shelves.specs.declared.Row.{Row}
use Rattle.shelves.specs.declared.Shelf.{Shelf}
use Rattle.program.specs.Rows.{placed, rows_of, padded_rows, shelf_of}
use Rattle.program.specs.declared.Placed.{Placed}

-- one row, and then the rest
rows_next : (n m : ℕ) (s : List ℕ) (at : ℕ) → n ≡ suc m → rows_of n s at ≡ (placed s at).row ∷ rows_of m s (placed s at).end
unfolding rows_of
rows_next n m s at e = rw e

rows_past : (n : ℕ) (s : List ℕ) (at : ℕ) → n ≡ 0 → rows_of n s at ≡ []
unfolding rows_of
rows_past n s at e = rw e

-- i rows have been read and are held, and those from a place on are left
pub record Filling (s : List ℕ) (count first : ℕ) (rows : List Row) (at i : ℕ) : Type 0 where
  pub read : List Row
  pub seam : rows_of count s first ≡ read ++ rows_of (count - i) s at
  pub many : length read ≡ i
  pub held : rows ≡ padded_rows ROWS read

pub filling_none : (s : List ℕ) (count first : ℕ) (x : Row) → x ≡ no_row → Filling s count first (replicate ROWS x) first 0
unfolding padded_rows
filling_none s count first x e = record { read = []; seam = rw sub-zero; many = refl; held = ap (replicate ROWS) e }

module _ (s : List ℕ) (count first : ℕ) (rows : List Row) (at i : ℕ) (w : Filling s count first rows at i) where
  pub filling_more : (p : Placed) → i < count → i < ROWS → p ≡ placed s at → Filling s count first (set rows i p.row) p.end (i + 1)
  unfolding padded_rows
  filling_more p h k e =
      let x = (placed s at).row in
      rw e (record {
        read = w.read ++ (x ∷ []);
        seam = w.seam ∙ ap (λ (l : List Row). w.read ++ l) (rows_next (count - i) (count - (i + 1)) s at (omega arith)) ∙ sym (append_assoc w.read _ _);
        many = rw length-append (omega (arith, w.many));
        held = rw (w.held, ← w.many) (set_next no_row x w.read ROWS ROWS (omega (arith, w.many)) (omega arith));
      })

  all_read : count ≤ i → rows ≡ padded_rows ROWS (rows_of count s first)
  all_read h =
      let l : rows_of count s first ≡ w.read = w.seam ∙ rw (rows_past (count - i) s at (omega arith), append-nil) in
      w.held ∙ ap (padded_rows ROWS) (sym l)

  all_full : ROWS ≤ i → rows ≡ padded_rows ROWS (rows_of count s first)
  unfolding padded_rows
  all_full h =
      let n : ROWS ≤ length w.read = omega (arith, w.many) in
      let m : ROWS ≤ length (w.read ++ rows_of (count - i) s at) = rw length-append (omega arith) in
      w.held ∙ take-append-le ROWS w.read (replicate ROWS no_row) n
      ∙ sym
      (rw (w.seam, take-append-le ROWS (w.read ++ rows_of (count - i) s at) (replicate ROWS no_row) m)
      (take-append-le ROWS w.read (rows_of (count - i) s at) n))

  pub filling_done : min count ROWS ≤ i → ◌≡◌ {A = Shelf} (record { rows = rows; count = count }) (shelf_of s count first)
  filling_done h =
      ap (λ (l : List Row). record { rows = l; count = count })
      (⊎_elim
      (λ k. let f : min count ROWS ≡ count = min-eq_left (leb-true count ROWS k) in all_read (omega arith))
      (λ k. let l = leb-false count ROWS k in let f : min count ROWS ≡ ROWS = min-eq_right (omega arith) in all_full (omega arith))
      (split (leb count ROWS)))
