use Rattle.std.proofs.Common.{refl}
use lib.Count.{count_leading_zeros}
use Rattle.abs_value.specs.Numbers.{tidy, tidied}
use Rattle.worked_examples.proofs.values.stack_bytes.Goals as goal

pub returns-clause-loaded_sign : goal.returns-clause-loaded_sign
unfolding tidied tidy count_leading_zeros
returns-clause-loaded_sign c = refl
