use Rattle.abs_value.specs.Lookups.{with_answer}
use Rattle.abs_value.proofs.Lists.{IsMapped}
use Rattle.abs_value.proofs.lookups.answer_in_registers.Given as goal

abbrev pub invariant-loop-r : goal.invariant-loop-r
invariant-loop-r l = IsMapped (with_answer l.call l.found) l.fn.registers l.r l.registers
