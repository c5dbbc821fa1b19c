use Rattle.std.proofs.Common.{arith}
use Rattle.abs_value.proofs.Unset.{unset_less}
use Rattle.abs_value.proofs.stack.Stack.copy_from.Goals as goal

pub copy_from-requires-clause-below : goal.copy_from-requires-clause-below
copy_from-requires-clause-below c =
    unset_less c.self.inside.slots c.self.inside.lowest _ (omega arith) c.self.invariant

pub copy_from-requires-clause-other : goal.copy_from-requires-clause-other
copy_from-requires-clause-other c =
    unset_less c.other.inside.slots c.other.inside.lowest _ (omega arith) c.other.invariant

pub invariant_of-self : goal.invariant_of-self
invariant_of-self c = rw c.copy_from.ensures c.other.invariant
