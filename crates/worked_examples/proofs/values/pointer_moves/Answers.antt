use Rattle.std.proofs.Common.{refl}
use lib.Count.{count_leading_zeros}
use Rattle.abs_value.specs.Numbers.{tidy, tidied}
use Rattle.worked_examples.proofs.values.pointer_moves.Goals as goal

pub returns-clause-range : goal.returns-clause-range
unfolding tidied tidy count_leading_zeros
returns-clause-range c = refl

pub returns-clause-range_past : goal.returns-clause-range_past
unfolding tidied tidy count_leading_zeros
returns-clause-range_past c = refl

pub returns-clause-range_taken : goal.returns-clause-range_taken
unfolding tidied tidy count_leading_zeros
returns-clause-range_taken c = refl

pub returns-clause-frame_range : goal.returns-clause-frame_range
unfolding tidied tidy count_leading_zeros
returns-clause-frame_range c = refl
