use Rattle.std.proofs.Common.{◌≤◌, arith}
use Rattle.std.specs.Int.{w64, leading_zeros}
use Rattle.std.proofs.lemmas.Nat.Bits.{ones_shr}
use Rattle.abs_value.proofs.bounds.ones_of.Goals as goal

pub returns-then-zeros-lt64 : goal.returns-then-zeros-lt64
returns-then-zeros-lt64 c =
    let within : leading_zeros w64 c.args.n ≤ 64 = omega arith in
    ones_shr 64 (leading_zeros w64 c.args.n) within
