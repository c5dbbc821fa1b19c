use Rattle.std.proofs.Common.{◌<◌, length, sym, ◌∙◌, arith, below_more}
use Rattle.block_order.proofs.Places.{at_read, at_within, LeadsWithin}
use Rattle.block_order.proofs.reach.next_unmarked.Goals as goal

pub loop-slot-preserved : goal.loop-slot-preserved
loop-slot-preserved c = λ s lt.
    below_more (LeadsWithin c.args.code.now c.args.marks.now) c.loop-slot.slot
    c.loop-slot.invariant
    (λ i t m is. c.in_default.ensures.none i t
    (sym (at_read c.args.code.now c.loop-slot.slot) ∙ is) m) s lt

pub returns-clause-none : goal.returns-clause-none
returns-clause-none c = λ s i t m is.
    let within : s < length c.args.code.now = at_within c.args.code.now s i is in
    c.loop-slot.invariant s (omega (arith, within, c.loop-slot-test.false)) i t m is
