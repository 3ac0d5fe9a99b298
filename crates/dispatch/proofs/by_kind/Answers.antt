-- Each kind's rule, by its parts that stand in the body.
use mathlib.Core.Path.{ap, ap₂}
use Rattle.std.proofs.Common.{ℕ, List, option_copied}
use Rattle.event.specs.Meaning.{key_means}
use Rattle.shelves.specs.Shelf.{policy_as}
use Rattle.flow.specs.Result.{Result}
use Rattle.outcome.specs.Outcome.{Done}
use Rattle.outcome.proofs.Laws.{left_stage}
use Rattle.rules.specs.Key.{key_for, key_rule}
use Rattle.rules.specs.Start.{start_rule}
use Rattle.rules.specs.Server.{kind_rule}
use Rattle.dispatch.proofs.by_kind.Goals as goal

pub returns-in-Start : goal.returns-in-Start
unfolding kind_rule
returns-in-Start c =
    rw c.in-Start.is
    (left_stage _ _ _ _ _ _ _ c.start.ensures
    (ap (λ (x : List ℕ). start_rule c.args.state.now c.args.event.time (record { impi = x })) c.of.ensures))

pub returns-in-OnRun : goal.returns-in-OnRun
unfolding kind_rule
returns-in-OnRun c = rw c.in-OnRun.is c.on_run.ensures

pub returns-in-Key : goal.returns-in-Key
unfolding kind_rule
returns-in-Key c =
    let v = key_means c.args.body.now c.in-Key.v in
    let w = policy_as (option_copied c.args.row) in
    let rule : List ℕ → List ℕ → Result Done =
    λ naf btid. key_rule (key_for naf) c.args.state.now w c.args.event.time (record { peer = v.peer; btid = btid; naf = naf; application = v.application }) in
    rw c.in-Key.is (left_stage _ _ _ _ _ _ _ (c.key.ensures v.peer) (ap₂ rule c.of-naf.ensures c.of-btid.ensures))
