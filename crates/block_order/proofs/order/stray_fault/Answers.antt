use Rattle.block_order.proofs.Refused.{stray_first}
use Rattle.block_order.proofs.order.stray_fault.Goals as goal

pub returns-clause-some : goal.returns-clause-some
returns-clause-some c = λ b read.
    stray_first c.args.code.now c.args.reached.now c.requires.reached b read c.in_ok-slot.slot
    c.in_ok-slot.rule c.in_ok-slot.ensures.some.0 c.in_ok-slot.ensures.some.1
    c.in_ok-slot.ensures.before
