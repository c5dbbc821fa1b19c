use Rattle.std.proofs.Common.{refl}
use lib.Count.{count_leading_zeros}
use Rattle.abs_value.specs.Numbers.{tidy, tidied}
use Rattle.worked_examples.proofs.values.joins.Goals as goal

pub returns-clause-numbers : goal.returns-clause-numbers
unfolding tidied tidy count_leading_zeros
returns-clause-numbers c = refl

pub returns-clause-kept : goal.returns-clause-kept
unfolding tidied tidy count_leading_zeros
returns-clause-kept c = refl
