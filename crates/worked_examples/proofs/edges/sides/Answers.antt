use Rattle.std.proofs.Common.{refl}
use lib.Count.{count_leading_zeros}
use Rattle.abs_value.specs.Numbers.{tidy, tidied}
use Rattle.worked_examples.proofs.edges.sides.Goals as goal

pub returns : goal.returns
unfolding tidied tidy count_leading_zeros
returns c = record {
  positive = refl;
  crossing = refl;
  negative = refl;
  short = refl;
  long = refl;
  positive32 = refl;
  crossing32 = refl;
}
