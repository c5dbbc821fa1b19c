use Rattle.std.proofs.Common.{refl}
use lib.Count.{count_leading_zeros}
use Rattle.abs_value.specs.Numbers.{tidy, tidied}
use Rattle.worked_examples.proofs.numbers.quotients.Goals as goal

pub returns : goal.returns
unfolding tidied tidy count_leading_zeros
returns c = record {
  inside = refl;
  by_single = refl;
  from_zero = refl;
  by_zero = refl;
  single_by_zero = refl;
  div32 = refl;
  div32_past = refl;
  sdiv = refl;
  sdiv32 = refl;
  single_sdiv = refl;
}
