-- Each test is a line of the rule. The string's length is that of FC, of the run, and two octets for each parameter.
use Prim.Native.Nat.{ℕ, ◌+◌, ◌*◌, ◌<◌, ◌≤◌}
use native.Mathlib.Omega.{arith}
use mathlib.Core.Path.{◌≡◌, sym, ◌∙◌}
use mathlib.Core.List.{List}
use lib.ListN.{length, length-set, length-take, length-drop}
use borrow.Author.Rules.{rules}
use Rattle.flow.proofs.Chains.{stops_below, passes, passes-above, passes-equal, chain}
use Rattle.flow.proofs.Replies.{met_refused, met_answered, replies}
use Rattle.kdf.proofs.Laws.{string_wrote, string_length}
use Rattle.kdf.specs.Encode.{cut, sum, encode_rule}
use Rattle.kdf.specs.Kdf.{params, kdf_string}
use Rattle.kdf.proofs.encode.Goals as goal

-- the string's length, where the lengths sum to the run
size : (fc total : ℕ) (lens run : List ℕ) → total ≡ sum lens → total ≡ length run → length (kdf_string fc (cut lens run)) ≡ 1 + total + 2 * length lens
size fc total lens run e w = rw (string_length fc lens run (sym e ∙ w), e)

fits : (fc total : ℕ) (lens run : List ℕ) (room : ℕ) → total ≡ sum lens → total ≡ length run → 1 + total + 2 * length lens ≤ room
    → 1 + length (params (cut lens run)) ≤ room
unfolding kdf_string
fits fc total lens run room e w h = omega (arith, size fc total lens run e w)

pub returns-then-lens-gt-PARAMETERS : goal.returns-then-lens-gt-PARAMETERS
unfolding encode_rule
returns-then-lens-gt-PARAMETERS c = search (replies, rules) depth 9

pub returns-then-is_any_long : goal.returns-then-is_any_long
unfolding encode_rule
returns-then-is_any_long c = search (replies, rules) depth 9

pub returns-then-total-run : goal.returns-then-total-run
unfolding encode_rule
returns-then-total-run c =
    let a = c.args in
    let h : sum a.lens.now ≡ length a.run.now → ⊥ = λ e. c.if-total-run.true (c.sum_of-total.ensures ∙ e) in
    search (replies, rules) depth 9

pub returns-then-out-total : goal.returns-then-out-total
unfolding encode_rule
returns-then-out-total c =
    let a = c.args in
    let w = c.if-total-run.false in
    let z = size a.fc _ a.lens.now a.run.now c.sum_of-total.ensures w in
    let h : length a.out.now < length (kdf_string a.fc (cut a.lens.now a.run.now)) = omega (arith, z) in
    let few = c.if-lens-gt-PARAMETERS.false in
    met_refused _ _ _
    (passes-above _ _ _ _ _ few
    (passes _ _ _ _ (sym c.is_any_long.ensures ∙ c.if-is_any_long.false)
    (passes-equal _ _ _ _ _ (sym c.sum_of-total.ensures ∙ w) (stops_below _ _ _ _ h))))

pub put_params-n-requires-clause-run_in_bounds : goal.put_params-n-requires-clause-run_in_bounds
put_params-n-requires-clause-run_in_bounds c =
    let f = fits c.args.fc _ c.args.lens.now c.args.run.now _ c.sum_of-total.ensures c.if-total-run.false c.if-out-total.false in
    simp (length-set, length-take, length-drop) (omega (arith, f))

pub overflow_add-result : goal.overflow_add-result
overflow_add-result c =
    let f = fits c.args.fc _ c.args.lens.now c.args.run.now _ c.sum_of-total.ensures c.if-total-run.false c.if-out-total.false in
    let n : c.put_params-n.result ≡ length (params (cut c.args.lens.now c.args.run.now)) = c.put_params-n.ensures.count in
    omega (arith, f, n)

pub returns : goal.returns
unfolding encode_rule kdf_string
returns c =
    let a = c.args in
    let w = sym c.sum_of-total.ensures ∙ c.if-total-run.false in
    let z = size a.fc _ a.lens.now a.run.now c.sum_of-total.ensures c.if-total-run.false in
    let h : length (kdf_string a.fc (cut a.lens.now a.run.now)) ≤ length a.out.now = omega (arith, z) in
    met_answered _ _ _ _ _ (string_wrote a.fc a.out.now _ _ _ (omega arith) c.put_params-n.ensures) (search (chain, rules) depth 9)
