use Rattle.std.proofs.Common.{arith}
use Rattle.lexing.proofs.Magnitudes.{too_large, digit_more, all_digits}
use Rattle.lexing.proofs.digits.magnitude.Goals as goal

pub returns-in_err-n : goal.returns-in_err-n
returns-in_err-n c = grind (arith, too_large)

pub loop-c-preserved : goal.loop-c-preserved
loop-c-preserved c = grind (arith, digit_more)

pub returns : goal.returns
returns c =
    all_digits _ _ _ _ c.loop-c-test.false c.loop-c.invariant.so_far c.loop-c.invariant.small
