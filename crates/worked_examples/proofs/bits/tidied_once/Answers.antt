use Rattle.std.proofs.Common.{refl}
use lib.Count.{count_leading_zeros}
use Rattle.abs_value.specs.Numbers.{tidy, tidied}
use Rattle.worked_examples.proofs.bits.tidied_once.Goals as goal

pub returns : goal.returns
unfolding tidied tidy count_leading_zeros
returns c = record {
  to_the_bits = refl;
  from_the_ends = refl;
  of_one = refl;
  once = refl;
  again = refl;
  copied = refl;
  joined = refl;
  joined_again = refl;
}
