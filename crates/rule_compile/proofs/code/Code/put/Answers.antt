use Rattle.std.proofs.Common.{◌<◌, length, arith, rules}
use Rattle.rule_compile.proofs.Slots.{length_code}
use Rattle.rule_compile.proofs.code.Code.put.Goals as goal

pub invariant_of-self : goal.invariant_of-self
invariant_of-self c =
    let long = length_code c.self.inside.slots.items in
    let count = rw (← c.self.view_is) at c.len.ensures.length in
    let room : length c.self.inside.slots.items < 4096 =
    omega (arith, long, count, c.if-len-ge-MOST_SLOTS.false) in
    search (rules, room)
