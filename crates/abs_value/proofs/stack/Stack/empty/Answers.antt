use Rattle.abs_value.proofs.Unset.{unset_at_first}
use Rattle.abs_value.proofs.stack.Stack.empty.Goals as goal

pub invariant_of-result : goal.invariant_of-result
invariant_of-result c = unset_at_first
