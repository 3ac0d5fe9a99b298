-- What is read of the opening part, field by field: what its reads say stands for what the chain of them ends with. It ends inside the input.
use Rattle.std.proofs.Common.{ℕ, zero, suc, ◌+◌, ◌≤◌, ◌≡◌, refl, List, length, get_or, ltb, Result, Ok, Err, IfOk}
use Rattle.std.proofs.lemmas.Result.{IfOk-at_ok}
use Rattle.flow.proofs.Choices.{pick_all}
use Rattle.limits.specs.Limits.{WORD, NAME, LIFETIME_LEAST, LIFETIME_MOST, GROUP, ROWS}
use Rattle.line.proofs.Numbers.{number-after}
use Rattle.program.specs.Cut.{number_in, text_in, with_read}
use Rattle.program.specs.OpeningPart.{row_at, rows_at, opening_part_of}
use Rattle.program.specs.declared.OpeningPart.{OpeningPart}
use Rattle.program.specs.declared.RowAt.{RowAt}
use Rattle.program.specs.declared.Stop.{Stop}
use Rattle.program.proofs.Laws.{number_back}

-- what a chain of reads ends with has a property, if each of its ends has
read_all : {A B : Type 0} (P : B → Type 0) (x : Result A Stop) (f : A → Result B Stop) → ((a : A) → x ≡ Ok a → IfOk (f a) P) → IfOk (with_read x f) P
unfolding with_read
read_all P (Ok a) f q = q a refl
read_all P (Err e) f q = tt

-- a number that was read ends inside the input
number_end : (s : List ℕ) (at max : ℕ) (r : ℕ × ℕ) → number_in s at max ≡ Ok r → r.1 ≤ length s
number_end s at max r e = (number-after s at max r.0 r.1 (number_back s at max r e)).inside

-- what is read of a row
pub record RowStands (s : List ℕ) (at : ℕ) (w : RowAt) : Type 0 where
  pub peer : text_in s at 1 NAME ≡ Ok w.peer
  pub fqdn : text_in s w.peer.end 1 NAME ≡ Ok w.fqdn
  pub inside : w.end ≤ length s

row_if : (s : List ℕ) (at : ℕ) → IfOk (row_at s at) (RowStands s at)
row_if s at =
    read_all P (text_in s at 1 NAME) _ λ peer h.
    read_all P (text_in s peer.end 1 NAME) _ λ fqdn i.
    pick_all Q (ltb fqdn.end (length s)) _ _
    (λ _. pick_all Q (ltb 1 (get_or s fqdn.end 0)) _ _ (λ _. tt) λ _.
    read_all P (number_in s (fqdn.end + 1) GROUP) _ λ group j.
    read_all P (number_in s group.1 WORD) _ λ required k.
    record { peer = h; fqdn = i; inside = number_end s group.1 WORD required k })
    (λ _. tt)
  where
    P : RowAt → Type 0
    P = RowStands s at

    Q : Result RowAt Stop → Type 0
    Q r = IfOk r P

pub row_stands : (s : List ℕ) (at : ℕ) (w : RowAt) → row_at s at ≡ Ok w → RowStands s at w
row_stands s at w e = IfOk-at_ok (RowStands s at) e (row_if s at)

rows_end : (n : ℕ) (s : List ℕ) (at : ℕ) → at ≤ length s → IfOk (rows_at n s at) (λ end. end ≤ length s)
unfolding rows_at
rows_end zero s at h = h
rows_end (suc n) s at h = read_all (λ end. end ≤ length s) (row_at s at) _ λ row e. rows_end n s row.end (row_stands s at row e).inside

-- what is read of an opening part
pub record PartStands (s : List ℕ) (o : OpeningPart) : Type 0 where
  pub domain : text_in s 0 1 NAME ≡ Ok o.domain
  pub rows : rows_at o.rows s o.at ≡ Ok o.end
  pub inside : o.end ≤ length s

part_if : (s : List ℕ) → IfOk (opening_part_of s) (PartStands s)
unfolding opening_part_of
part_if s =
    read_all P (text_in s 0 1 NAME) _ λ domain h.
    read_all P (number_in s domain.end WORD) _ λ restart i.
    read_all P (number_in s restart.1 LIFETIME_MOST) _ λ lifetime j.
    pick_all (λ (r : Result OpeningPart Stop). IfOk r P) (ltb lifetime.0 LIFETIME_LEAST) _ _ (λ _. tt) λ _.
    read_all P (number_in s lifetime.1 ROWS) _ λ rows k.
    read_all P (rows_at rows.0 s rows.1) _ λ end e.
    record { domain = h; rows = e; inside = IfOk-at_ok (λ end. end ≤ length s) e (rows_end rows.0 s rows.1 (number_end s lifetime.1 ROWS rows k)) }
  where
    P : OpeningPart → Type 0
    P = PartStands s

pub part_stands : (s : List ℕ) (o : OpeningPart) → opening_part_of s ≡ Ok o → PartStands s o
part_stands s o e = IfOk-at_ok (PartStands s) e (part_if s)

pub whole_ends : (s : List ℕ) (o : OpeningPart) → opening_part_of s ≡ Ok o → o.end ≤ length s
whole_ends s o e = (part_stands s o e).inside
