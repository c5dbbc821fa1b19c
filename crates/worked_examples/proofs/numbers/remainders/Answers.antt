use Rattle.std.proofs.Common.{refl}
use lib.Count.{count_leading_zeros}
use Rattle.abs_value.specs.Numbers.{tidy, tidied}
use Rattle.worked_examples.proofs.numbers.remainders.Goals as goal

pub returns : goal.returns
unfolding tidied tidy count_leading_zeros
returns c = record {
  by_single = refl;
  by_range = refl;
  of_less = refl;
  from_zero = refl;
  by_zero = refl;
  single_by_zero = refl;
  mod32 = refl;
  mod32_by_zero = refl;
  single32_by_zero = refl;
  smod = refl;
  smod32 = refl;
  single_smod = refl;
}
