use Rattle.abs_value.proofs.Unset.{unset_stored}
use Rattle.abs_value.proofs.stack.Stack.store.Goals as goal

pub invariant_of-self : goal.invariant_of-self
invariant_of-self c =
    rw (c.store.ensures, c.min-self-inside.ensures)
    (unset_stored c.self.inside.slots c.self.inside.lowest c.args.place _ c.args.value
    c.self.invariant)
