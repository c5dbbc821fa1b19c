use Rattle.std.proofs.Common.{refl}
use lib.Count.{count_leading_zeros}
use Rattle.abs_value.specs.Numbers.{tidy, tidied}
use Rattle.worked_examples.proofs.edges.orders.Goals as goal

pub returns : goal.returns
unfolding tidied tidy count_leading_zeros
returns c = record {
  below = refl;
  nowhere_below = refl;
  not_below = refl;
  at_most = refl;
  nowhere_at_most = refl;
  above = refl;
  not_above = refl;
  at_least = refl;
  nowhere_at_least = refl;
}
