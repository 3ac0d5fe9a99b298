-- The invariant: the parameters so far stand in front, and the string is these and the parameters of the lengths and the run that are left.
use native.Mathlib.Omega.{arith}
use Prim.Native.Nat.{◌-◌}
use mathlib.Core.Path.{◌≡◌, ◌∙◌}
use lib.ListN.{length, length-append, length-take, length-drop}
use Rattle.kdf.proofs.Laws.{length-param, Next, going_none, going_next, going_more, going_done}
use Rattle.kdf.proofs.put_params.Goals as goal
use Rattle.kdf.proofs.put_params.Goals.{In-loop-n}

-- what the turn's parameter needs
next : (c : In-loop-n) → let l = c.loop-n in Next c.args.run.now c.args.lens.now l.out l.n-index l.from l.at
next c = going_next _ _ _ _ _ _ _ c.loop-n.invariant c.loop-n-test.true c.requires.lens_value c.requires.run_in_bounds

pub loop-n-init : goal.loop-n-init
loop-n-init c = going_none _ _ _ c.requires.lens_value_2

pub overflow_add-to : goal.overflow_add-to
overflow_add-to c = omega (arith, next (goal.at.overflow_add-to c).In-loop-n)

pub slice_bounds-put_param-end : goal.slice_bounds-put_param-end
slice_bounds-put_param-end c = omega (arith, next (goal.at.slice_bounds-put_param-end c).In-loop-n)

pub put_param-at-requires-clause-p_len_bound : goal.put_param-at-requires-clause-p_len_bound
put_param-at-requires-clause-p_len_bound c =
    let n = next (goal.at.put_param-at-requires-clause-p_len_bound c).In-loop-n in
    simp (length-take, length-drop) (omega (arith, n))

pub put_param-at-requires-clause-p_in_bounds : goal.put_param-at-requires-clause-p_in_bounds
put_param-at-requires-clause-p_in_bounds c =
    let n = next (goal.at.put_param-at-requires-clause-p_in_bounds c).In-loop-n in
    simp (length-take, length-drop) (omega (arith, n))

pub overflow_add-at : goal.overflow_add-at
overflow_add-at c =
    let n = next (goal.at.overflow_add-at c).In-loop-n in
    omega (arith, n, simp (length-param, length-take, length-drop) at c.put_param-at.ensures.count)

pub loop-n-preserved : goal.loop-n-preserved
loop-n-preserved c =
    let n = next (goal.at.loop-n-preserved c).In-loop-n in
    let e : length c.put_param-at.new.out ≡ length c.loop-n.out - c.loop-n.at = c.put_param-at.auto.out ∙ simp (length-take, length-drop) (omega arith) in
    going_more _ _ _ _ _ _ _ c.loop-n.invariant c.loop-n-test.true _ _ c.put_param-at.ensures
    (simp (length-append, length-take, length-drop) (omega (arith, e, n)))

pub returns : goal.returns
returns c = going_done _ _ _ _ _ _ _ c.loop-n.invariant c.loop-n-test.false
