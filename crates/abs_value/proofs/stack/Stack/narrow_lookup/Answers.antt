use Rattle.abs_value.proofs.Unset.{unset_answered}
use Rattle.abs_value.proofs.stack.Stack.narrow_lookup.Goals as goal

pub invariant_of-self : goal.invariant_of-self
invariant_of-self c =
    rw c.answer_from.ensures (unset_answered c.self.inside.slots c.self.inside.lowest c.args.call
    c.args.found c.self.invariant)
