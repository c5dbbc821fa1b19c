use Rattle.std.proofs.Common.{length, ap, arith}
use Rattle.block_order.proofs.order.rearranged.Goals as goal

pub in_order-requires-clause-some : goal.in_order-requires-clause-some
in_order-requires-clause-some c =
    let long = ap length c.deref.ensures.value in
    omega (arith, long, c.in_ok-code.ensures.size, c.in_ok-code.ensures.read.some)

pub in_order-requires-clause-short : goal.in_order-requires-clause-short
in_order-requires-clause-short c =
    let long = ap length c.deref.ensures.value in
    omega (arith, long, c.in_ok-code.ensures.size, c.in_ok-code.ensures.read.short)
