use Rattle.std.proofs.Common.{refl}
use lib.Count.{count_leading_zeros}
use Rattle.abs_value.specs.Numbers.{tidy, tidied}
use Rattle.worked_examples.proofs.lookups.other_checks.Goals as goal

pub returns-clause-with_itself : goal.returns-clause-with_itself
unfolding tidied tidy count_leading_zeros
returns-clause-with_itself c = refl

pub returns-clause-narrowed : goal.returns-clause-narrowed
unfolding tidied tidy count_leading_zeros
returns-clause-narrowed c = refl

pub returns-clause-zero : goal.returns-clause-zero
unfolding tidied tidy count_leading_zeros
returns-clause-zero c = refl
