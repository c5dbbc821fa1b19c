use Rattle.std.proofs.Common.{refl}
use lib.Count.{count_leading_zeros}
use Rattle.abs_value.specs.Numbers.{tidy, tidied}
use Rattle.worked_examples.proofs.bits.bits_in_common.Goals as goal

pub returns : goal.returns
unfolding tidied tidy count_leading_zeros
returns c = record {
  goes_on = refl;
  jumps = refl;
  jumps_by_two = refl;
  none_there = refl;
  one_there = refl;
  by_a_range = refl;
  long = refl;
  equal = refl;
  apart = refl;
}
