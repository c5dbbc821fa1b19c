use Rattle.std.proofs.Common.{refl}
use lib.Count.{count_leading_zeros}
use Rattle.abs_value.specs.Numbers.{tidy, tidied}
use Rattle.worked_examples.proofs.edges.equalities.Goals as goal

pub returns : goal.returns
unfolding tidied tidy count_leading_zeros
returns c = record {
  common = refl;
  one_common = refl;
  apart = refl;
  least = refl;
  greatest = refl;
  within = refl;
  ranges = refl;
}
