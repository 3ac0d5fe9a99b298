-- Laws of the run table: what a search found passes its test, what it did not find is nowhere, and a run that is put changes its place alone.
use Prim.Native.Nat.{ℕ, zero, suc, ◌<◌}
use native.Mathlib.Omega.{arith}
use mathlib.Core.Path.{◌≡◌, refl, sym, ap, ◌∙◌}
use mathlib.Core.Logic.{◌≢◌, ◌⊎◌, ⊎_elim}
use mathlib.Core.Bool.{Bool, true, false, not, and-false}
use mathlib.Core.List.{List, [], ◌∷◌, map}
use lib.Dec.{eqb}
use lib.ListN.{length, get_or, set, replicate, length-set, length-replicate, get_or-eq_default, get_or-map}
use borrow.Author.Tests.{not-false}
use Rattle.limits.specs.Limits.{RUNS}
use Rattle.flow.specs.Search.{first}
use Rattle.std.specs.Prelude.{Some, None}
use Rattle.flow.proofs.Searches.{first-same}
use Rattle.flow.proofs.Tables.{passed, missed, none_found, put_all, put_pairs, put-inside, set-map}
use Rattle.octets.proofs.Laws.{sides}
use Rattle.records.specs.Rows.{no_run, is_open, is_run, is_other}
use Rattle.records.specs.declared.Run.{Run}
use Rattle.tables.specs.Tables.{no_runs, run_in, run_of, is_free, free_run, other_of, put_run, WholeRuns, map_runs}
use Rattle.tables.specs.declared.Runs.{Runs}

-- ---- of any rows

-- past the rows there is none, so what is not found is at no place at all
pub missed_anywhere : {A : Type 0} (p : A → Bool) (d : A) (l : List A) → p d ≡ false → first p l ≡ None → (k : ℕ) → p (get_or l k d) ≡ false
missed_anywhere p d l n e k = ⊎_elim (missed p d l e k) (λ h. ap p (get_or-eq_default l d h) ∙ n) (sides k (length l))

pub get_d_none : {A : Type 0} (n i : ℕ) (d : A) → get_or (replicate n d) i d ≡ d
get_d_none zero i d = refl
get_d_none (suc n) zero d = refl
get_d_none (suc n) (suc i) d = get_d_none n i d

pub at_map : {A : Type 0} (e : A → A) (d : A) (l : List A) (i : ℕ) → e d ≡ d → get_or (map e l) i d ≡ e (get_or l i d)
at_map e d l i h = ap (get_or (map e l) i) (sym h) ∙ get_or-map e l i d

-- a row that is put where it stands
pub set_same : {A : Type 0} (d : A) (l : List A) (i : ℕ) → set l i (get_or l i d) ≡ l
set_same d [] i = refl
set_same d (x ∷ l) zero = refl
set_same d (x ∷ l) (suc i) = ap (λ (k : List _). x ∷ k) (set_same d l i)

-- ---- none

pub none_idle : (t : ℕ) → is_open t no_run ≡ false
unfolding is_open no_run
none_idle t = refl

pub none_is : (n t : ℕ) → is_run n t no_run ≡ false
unfolding is_run
none_is n t = rw (none_idle t) (and-false (eqb no_run.number n))

none_other : (n : ℕ) (rand : List ℕ) (t : ℕ) → is_other n rand t no_run ≡ false
unfolding is_other no_run
none_other n rand t = and-false (not (eqb 0 n))

pub none_in : (i : ℕ) → run_in no_runs i ≡ no_run
unfolding run_in no_runs
none_in i = get_d_none RUNS i no_run

pub none_whole : WholeRuns no_runs
unfolding no_runs
none_whole = record { places = length-replicate RUNS no_run }

-- ---- what was found

-- i is a place of the table
pub record IsPlace (runs : Runs) (i : ℕ) : Type 0 where
  pub inside : i < length runs.rows

module _ (runs : Runs) where
  module _ (n t : ℕ) where
    pub run-found : (i : ℕ) → run_of n t runs ≡ Some i → is_run n t (run_in runs i) ≡ true
    unfolding run_of run_in
    run-found i e = (passed (is_run n t) no_run runs.rows i e).passes

    pub run-place : (i : ℕ) → run_of n t runs ≡ Some i → IsPlace runs i
    unfolding run_of
    run-place i e = record { inside = (passed (is_run n t) no_run runs.rows i e).inside }

    pub run-missed : run_of n t runs ≡ None → (k : ℕ) → is_run n t (run_in runs k) ≡ false
    unfolding run_of run_in
    run-missed e k = missed_anywhere (is_run n t) no_run runs.rows (none_is n t) e k

    pub run-nowhere : ((k : ℕ) → is_run n t (run_in runs k) ≡ false) → run_of n t runs ≡ None
    unfolding run_of run_in
    run-nowhere h = none_found (is_run n t) no_run runs.rows (λ k _. h k)

  pub other_missed : (n : ℕ) (rand : List ℕ) (t : ℕ) → other_of n rand t runs ≡ None → (k : ℕ) → is_other n rand t (run_in runs k) ≡ false
  unfolding other_of run_in
  other_missed n rand t e k = missed_anywhere (is_other n rand t) no_run runs.rows (none_other n rand t) e k

  pub free_place : (t i : ℕ) → free_run t runs ≡ Some i → IsPlace runs i
  unfolding free_run
  free_place t i e = record { inside = (passed (is_free t) no_run runs.rows i e).inside }

  -- where no place is free, a run is open at each
  pub free_missed : (t : ℕ) → WholeRuns runs → free_run t runs ≡ None → (i : ℕ) → i < RUNS → is_open t (run_in runs i) ≡ true
  unfolding free_run run_in
  free_missed t w e i h = not-false _ (missed (is_free t) no_run runs.rows e i (omega (arith, w.places)))

-- ---- what was put

module _ (runs : Runs) (i : ℕ) (r : Run) where
  pub run-put-all : (P : Run → Type 0) → P r → ((k : ℕ) → P (run_in runs k)) → (k : ℕ) → P (run_in (put_run runs i r) k)
  unfolding run_in put_run
  run-put-all P h f = put_all no_run P runs.rows i r h f

  pub run-put_pairs : (R : Run → Run → Type 0) → ((a b : Run) → R a b → R b a) → ((k : ℕ) → k ≢ i → R r (run_in runs k))
      → ((j k : ℕ) → j ≢ k → R (run_in runs j) (run_in runs k)) → (j k : ℕ) → j ≢ k → R (run_in (put_run runs i r) j) (run_in (put_run runs i r) k)
  unfolding run_in put_run
  run-put_pairs R flip h f = put_pairs no_run R flip runs.rows i r h f

  pub run-put : IsPlace runs i → (k : ℕ) → ((k ≡ i) × (run_in (put_run runs i r) k ≡ r)) ⊎ ((k ≢ i) × (run_in (put_run runs i r) k ≡ run_in runs k))
  unfolding run_in put_run
  run-put h k = put-inside no_run runs.rows i r h.inside k

  pub run-put_there : IsPlace runs i → run_in (put_run runs i r) i ≡ r
  run-put_there h = ⊎_elim (λ p. p.1) (λ p. absurd (p.0 refl)) (run-put h i)

  pub run-put_whole : WholeRuns runs → WholeRuns (put_run runs i r)
  unfolding put_run
  run-put_whole w = record { places = length-set runs.rows i r ∙ w.places }

-- a run that is put where it stands
pub run-put-same : (runs : Runs) (i : ℕ) → put_run runs i (run_in runs i) ≡ runs
unfolding put_run run_in
run-put-same runs i = ap (λ (l : List Run). record { rows = l }) (set_same no_run runs.rows i)

-- ---- what a function makes of every run

module _ (e : Run → Run) (runs : Runs) where
  pub run_mapped : (i : ℕ) → e no_run ≡ no_run → run_in (map_runs e runs) i ≡ e (run_in runs i)
  unfolding run_in map_runs
  run_mapped i h = at_map e no_run runs.rows i h

  pub run_of_mapped : (n t : ℕ) → ((r : Run) → is_run n t (e r) ≡ is_run n t r) → run_of n t (map_runs e runs) ≡ run_of n t runs
  unfolding run_of map_runs
  run_of_mapped n t h = first-same (is_run n t) (is_run n t) e h 0 runs.rows

  pub free_mapped : (t : ℕ) → ((r : Run) → is_open t (e r) ≡ is_open t r) → free_run t (map_runs e runs) ≡ free_run t runs
  unfolding free_run map_runs
  free_mapped t h = first-same (is_free t) (is_free t) e (λ r. rw (h r)) 0 runs.rows

  pub other_mapped : (n : ℕ) (rand : List ℕ) (t : ℕ) → ((r : Run) → is_other n rand t (e r) ≡ is_other n rand t r) → other_of n rand t (map_runs e runs) ≡ other_of n rand t runs
  unfolding other_of map_runs
  other_mapped n rand t h = first-same (is_other n rand t) (is_other n rand t) e h 0 runs.rows

  pub run-put_mapped : (i : ℕ) (r : Run) → map_runs e (put_run runs i r) ≡ put_run (map_runs e runs) i (e r)
  unfolding map_runs put_run
  run-put_mapped i r = ap (λ (l : List Run). record { rows = l }) (set-map e runs.rows i r)
