use Rattle.abs_value.proofs.Unset.{unset_joined}
use Rattle.abs_value.proofs.stack.Stack.join_in.Goals as goal

pub invariant_of-self : goal.invariant_of-self
invariant_of-self c =
    rw (c.join_from.ensures, c.max-self-inside.ensures)
    (unset_joined c.self.inside.slots c.other.inside.slots c.self.inside.lowest
    c.other.inside.lowest c.self.invariant c.other.invariant)
