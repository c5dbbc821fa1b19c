use Rattle.std.proofs.Common.{arith}
use Rattle.abs_value.specs.Lookups.{slot_with_answer}
use Rattle.abs_value.proofs.Lists.{mapped_more}
use Rattle.abs_value.proofs.Unset.{answered_below}
use Rattle.abs_value.proofs.stack.answer_from.Goals as goal

pub loop-i-init : goal.loop-i-init
loop-i-init c =
    answered_below c.args.stack.now c.args.from c.args.call c.args.found c.requires

pub loop-i-preserved : goal.loop-i-preserved
loop-i-preserved c =
    mapped_more (slot_with_answer c.args.call c.args.found) c.args.stack.now c.loop-i.stack
    c.loop-i.i c.with_answer.result _ (omega arith) c.loop-i.invariant c.with_answer.ensures
