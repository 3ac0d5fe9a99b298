-- There are eight digits at the most.
use Rattle.std.proofs.Common.{◌≤◌, arith}
use Rattle.std.proofs.Math.Nat.{pow-le-pow_right}
use Rattle.vectors.proofs.number.Goals as goal

pub returns : goal.returns
returns c =
    let most : c.loop-octet.octet-index ≤ 8 = omega arith in
    omega (arith, pow-le-pow_right {n = 10} (omega arith) most)
