-- What stands in a body of octets consists of octets.
use Prim.Native.Nat.{ℕ, zero, suc}
use native.Mathlib.Omega.{arith}
use mathlib.Core.Path.{◌≡◌, sym, subst}
use mathlib.Core.List.{List, [], ◌∷◌, ◌++◌}
use Rattle.std.specs.Prelude.{Some}
use Rattle.line.specs.Number.{Octets}
use Rattle.line.specs.Text.{text_octets}
use Rattle.settings.specs.Table.{SETTINGS}
use Rattle.format.specs.Format.{octets}
use Rattle.event.specs.Values.{VectorValues, vector, on_run}
use Rattle.event.specs.Table.{NAMED, VECTOR, from_kind, from_act, EVENT, decoded}
use Rattle.event.proofs.Trips.{event_written}

octets_left : (x y : List ℕ) → Octets (x ++ y) → Octets x
octets_left [] y o i = omega arith
octets_left (a ∷ x) y o zero = o 0
octets_left (a ∷ x) y o (suc i) = octets_left x y (λ k. o (suc k)) i

octets_right : (x y : List ℕ) → Octets (x ++ y) → Octets y
octets_right [] y o i = o i
octets_right (a ∷ x) y o i = octets_right x y (λ k. o (suc k)) i

pub rand-octets : (body : List ℕ) (t restart n : ℕ) (v : VectorValues) → Octets body
    → decoded body ≡ Some (record { time = t; kind = on_run (record { restart = restart; run = n; act = vector v }) }) → Octets v.rand
unfolding EVENT VECTOR octets from_kind from_act
rand-octets body t restart n v o q =
    let w = event_written body _ o q in
    let named = octets NAMED (t, (restart, n)) in
    let rest = v.autn ++ (text_octets v.xres ++ (v.ck ++ (v.ik ++ octets SETTINGS v.settings))) in
    let all : Octets (named ++ (text_octets v.impi ++ (v.rand ++ rest))) = λ i. subst Octets (sym w.same) o (suc i) in
    octets_left v.rand rest (octets_right (text_octets v.impi) (v.rand ++ rest) (octets_right named (text_octets v.impi ++ (v.rand ++ rest)) all))
