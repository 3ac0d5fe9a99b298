-- The session goes where the student's own stands, or in a free place; the answer stands in the buffer.
use Prim.Native.Nat.{ℕ}
use mathlib.Core.Path.{◌≡◌, refl, ap, ◌∙◌}
use mathlib.Core.List.{List}
use Rattle.flow.proofs.Chains.{passes_found}
use Rattle.names.specs.Name.{name_octets}
use Rattle.btid.specs.Btid.{btid}
use Rattle.records.specs.Time.{moment, plus_of}
use Rattle.records.specs.Rows.{session_of}
use Rattle.records.specs.declared.Moment.{Moment}
use Rattle.tables.specs.Tables.{place_for}
use Rattle.tables.specs.State.{established}
use Rattle.answer.specs.Answer.{made, encode_of}
use Rattle.outcome.proofs.Laws.{rules, left_answered}
use Rattle.rules.specs.Response.{makes, expiry_of}
use Rattle.response.proofs.makes.Goals as goal

pub returns-in_default : goal.returns-in_default
unfolding makes
returns-in_default c =
    let e = c.place_for.ensures ∙ ap (λ (impi : List ℕ). place_for impi c.args.time c.args.state.now.sessions) c.as_octets.ensures.octets in
    search rules

pub returns : goal.returns
unfolding makes encode_of
returns c =
    let s = c.args.state.now in
    let t = c.args.time in
    let r = c.args.run.now in
    let j = c.in-Some.place in
    let p = c.place_for.ensures ∙ ap (λ (impi : List ℕ). place_for impi t s.sessions) c.as_octets.ensures.octets in
    let x : c.plus-expiry.result ≡ expiry_of s t r = c.plus-expiry.ensures ∙ ap (plus_of (moment t)) c.lifetime_or.ensures in
    let a = made (btid r.rand (name_octets s.domain)) t (expiry_of s t r).0 in
    let w = rw x at c.put_made-len.ensures in
    let e = c.establish.ensures ∙ ap (established s t c.args.i j) (c.session.ensures ∙ ap (λ (m : Moment). session_of (moment t) m r) x) in
    left_answered s _ _ a _ _ _ _ w e (passes_found _ _ _ _ p _ j c.in-Some.is refl)
