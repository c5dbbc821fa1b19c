use Rattle.std.proofs.Common.{refl}
use lib.Count.{count_leading_zeros}
use Rattle.abs_value.specs.Numbers.{tidy, tidied}
use Rattle.worked_examples.proofs.numbers.differences.Goals as goal

pub returns : goal.returns
unfolding tidied tidy count_leading_zeros
returns c = record {
  touching = refl;
  below = refl;
  below32 = refl;
  single_wraps = refl;
  negated = refl;
  negated32 = refl;
  negated_one = refl;
}
