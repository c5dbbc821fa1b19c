use Rattle.std.proofs.Common.{arith}
use Rattle.rule_compile.proofs.Slots.{length_code}
use Rattle.rule_compile.proofs.code.Code.put_wide.Goals as goal

pub invariant_of-self : goal.invariant_of-self
invariant_of-self c =
    let long = length_code c.self.inside.slots.items in
    let count = rw (← c.self.view_is) at c.len.ensures.length in
    omega (arith, long, count, c.if-len-gt-MOST_SLOTS.false, c.push_wide.ensures.short)
