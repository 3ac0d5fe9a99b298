-- A first place that is too large is refused before anything is done; otherwise what comes back is the batch, with a number for why it ended.
use Prim.Native.Nat.{ℕ}
use mathlib.Core.Path.{ap}
use native.Mathlib.Omega.{arith}
use Rattle.batch.specs.declared.Batch.{Batch}
use Rattle.exports.specs.declared.Progress.{Progress}
use Rattle.exports.specs.Exports.Progressed.{within}
use Rattle.exports.proofs.pr_serve.Goals as goal

abbrev told : Batch → ℕ → Progress
told b n = record { no = n; len = b.len; at = b.at; place = b.place }

pub returns : goal.returns
returns c = let b = c.serve-batch.result in within (omega arith) b c.serve-batch.ensures (ap (told b) c.number.ensures)
