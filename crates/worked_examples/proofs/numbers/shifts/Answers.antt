use Rattle.std.proofs.Common.{refl}
use lib.Count.{count_leading_zeros}
use Rattle.abs_value.specs.Numbers.{tidy, tidied}
use Rattle.worked_examples.proofs.numbers.shifts.Goals as goal

pub returns : goal.returns
unfolding tidied tidy count_leading_zeros
returns c = record {
  lsh_fits = refl;
  lsh_wraps = refl;
  lsh_masked = refl;
  lsh_by_range = refl;
  lsh32_fits = refl;
  lsh32_wraps = refl;
  lsh32_masked = refl;
  rsh = refl;
  rsh32 = refl;
  rsh_by_range = refl;
  arsh_low = refl;
  arsh_sign = refl;
  arsh32_low = refl;
  arsh32_sign = refl;
  single_arsh = refl;
}
