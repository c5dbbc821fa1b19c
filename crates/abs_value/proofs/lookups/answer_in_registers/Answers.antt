use Rattle.std.proofs.Common.{arith}
use Rattle.abs_value.specs.Lookups.{with_answer}
use Rattle.abs_value.proofs.Lists.{mapped_more}
use Rattle.abs_value.proofs.lookups.answer_in_registers.Goals as goal

pub loop-r-preserved : goal.loop-r-preserved
loop-r-preserved c =
    mapped_more (with_answer c.args.call c.args.found) c.args.registers.now c.loop-r.registers
    c.loop-r.r c.with_answer.result _ (omega arith) c.loop-r.invariant c.with_answer.ensures
