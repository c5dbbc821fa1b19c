use Rattle.std.proofs.Common.{refl}
use lib.Count.{count_leading_zeros}
use Rattle.abs_value.specs.Numbers.{tidy, tidied}
use Rattle.worked_examples.proofs.bits.found_empty.Goals as goal

pub returns : goal.returns
unfolding tidied tidy count_leading_zeros
returns c = record {
  not_at_once = refl;
  again = refl;
  copied = refl;
  result = refl;
  joined = refl;
  dropped = refl;
}
