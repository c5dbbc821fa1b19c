use Rattle.std.proofs.Common.{refl}
use lib.Count.{count_leading_zeros}
use Rattle.abs_value.specs.Numbers.{tidy, tidied}
use Rattle.worked_examples.proofs.numbers.sizes.Goals as goal

pub returns : goal.returns
unfolding tidied tidy count_leading_zeros
returns c = record {
  mov32_below = refl;
  mov32_past = refl;
  mov32_single = refl;
  movsx8 = refl;
  movsx8_single = refl;
  movsx16w = refl;
  le16 = refl;
  be32 = refl;
  le64 = refl;
  be16_single = refl;
}
