use Rattle.std.proofs.Common.{refl}
use lib.Count.{count_leading_zeros}
use Rattle.abs_value.specs.Numbers.{tidy, tidied}
use Rattle.worked_examples.proofs.bits.bit_by_bit.Goals as goal

pub returns : goal.returns
unfolding tidied tidy count_leading_zeros
returns c = record {
  and = refl;
  or = refl;
  or_of_two = refl;
  xor = refl;
  lsh = refl;
  rsh32 = refl;
  sum = refl;
  joined = refl;
}
