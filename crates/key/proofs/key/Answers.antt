-- Each refusal is a line of the rule; the last stage has its own proof.
use mathlib.Core.Path.{◌≡◌, ap}
use native.Mathlib.Omega.{arith}
use Rattle.std.proofs.Common.{option_copied, Some, None}
use Rattle.std.specs.Prelude.{Option}
use denote.Bor.{Bor}
use Rattle.std.proofs.lemmas.Result.{err_from_is_err_and}
use Rattle.flow.specs.declared.Refusal.TheVariants.{NotYours, NoBtid}
use Rattle.outcome.proofs.Laws.{left_refused, left_stage}
use Rattle.shelves.specs.Shelf.{policy_as}
use Rattle.shelves.specs.declared.Row.{Row}
use Rattle.key.proofs.Laws.{found-sought, stranger, unnamed, granted}
use Rattle.key.proofs.key.Goals as goal

pub returns-in_err-row : goal.returns-in_err-row
returns-in_err-row c =
    let p = err_from_is_err_and c.from_residual.result c.from_residual.ensures.1 in
    let e : c.args.row ≡ None = grind arith in
    let n : c.in_err-row.field-0.0 ≡ NotYours = grind arith in
    λ peer. rw (p.1, p.2, n) (left_refused _ _ _ NotYours (stranger _ _ _ _ (ap (λ (o : Option (Bor Row)). (policy_as (option_copied o)).found) e)))

pub returns-in_err-place : goal.returns-in_err-place
returns-in_err-place c =
    let p = err_from_is_err_and c.from_residual-in_err-place.result c.from_residual-in_err-place.ensures.1 in
    let e : c.named-found.result ≡ None = grind arith in
    let n : c.in_err-place.field-0.0 ≡ NoBtid = grind arith in
    let q : c.args.row ≡ Some c.in_ok-row.row = grind arith in
    let w = ap (λ (o : Option (Bor Row)). policy_as (option_copied o)) q in
    let f = found-sought _ _ _ _ c.in_ok-row.row.now _ _ _ w c.sought.ensures c.named-found.ensures in
    λ peer. rw (p.1, p.2, n) (left_refused _ _ _ NoBtid (unnamed _ _ _ _ c.in_ok-row.row.now w _ f e))

pub returns : goal.returns
returns c =
    let e : c.named-found.result ≡ Some c.in_ok-place.place = grind arith in
    let q : c.args.row ≡ Some c.in_ok-row.row = grind arith in
    let w = ap (λ (o : Option (Bor Row)). policy_as (option_copied o)) q in
    let f = found-sought _ _ _ _ c.in_ok-row.row.now _ _ _ w c.sought.ensures c.named-found.ensures in
    λ peer. left_stage _ _ _ _ _ _ _ (c.grants.ensures c.args.state.now) (granted _ _ _ _ c.in_ok-row.row.now w _ f _ _ e c.at.ensures)
