use Rattle.std.proofs.Common.{refl}
use lib.Count.{count_leading_zeros}
use Rattle.abs_value.specs.Numbers.{tidy, tidied}
use Rattle.worked_examples.proofs.numbers.bit_operations.Goals as goal

pub returns : goal.returns
unfolding tidied tidy count_leading_zeros
returns c = record {
  and = refl;
  and_too = refl;
  or_7 = refl;
  or_8 = refl;
  or_high = refl;
  xor_7 = refl;
  xor_8 = refl;
  xor32 = refl;
  single_xor = refl;
}
