use Rattle.std.proofs.Common.{refl}
use lib.Count.{count_leading_zeros}
use Rattle.abs_value.specs.Numbers.{tidy, tidied}
use Rattle.worked_examples.proofs.numbers.sums.Goals as goal

pub returns : goal.returns
unfolding tidied tidy count_leading_zeros
returns c = record {
  inside = refl;
  fits = refl;
  wraps = refl;
  fits32 = refl;
  wraps32 = refl;
  low_half = refl;
  single_wraps = refl;
}
