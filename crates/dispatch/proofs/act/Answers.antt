-- Each act's rule, by its parts that stand in the body.
use mathlib.Core.Path.{ap}
use Rattle.std.proofs.Common.{ℕ, List}
use Rattle.event.specs.Meaning.{vector_means}
use Rattle.records.specs.Rows.{is_right}
use Rattle.tables.specs.State.{run_at}
use Rattle.outcome.proofs.Laws.{left_stage}
use Rattle.rules.specs.Response.{concludes}
use Rattle.rules.specs.Server.{act_rule}
use Rattle.dispatch.proofs.act.Goals as goal

pub returns-in-Vector : goal.returns-in-Vector
unfolding act_rule
returns-in-Vector c =
    rw c.in-Vector.is
    (c.vector.ensures (vector_means c.args.body.now c.in-Vector.v)
    (record { impi_is = c.of-impi.ensures; challenge_is = c.challenge_of-challenge.ensures; brought_is = c.brought-brought.ensures }))

pub returns-in-Response : goal.returns-in-Response
unfolding act_rule
returns-in-Response c =
    let s = c.args.state.now in
    let i = c.args.i in
    let told = ap (λ (res : List ℕ). concludes s c.args.time i (is_right res (run_at s i)) (run_at s i)) c.of.ensures in
    rw c.in-Response.is (left_stage _ _ _ _ _ _ _ c.response.ensures told)

pub returns-in-Abort : goal.returns-in-Abort
unfolding act_rule
returns-in-Abort c = rw c.in-Abort.is c.abort.ensures
