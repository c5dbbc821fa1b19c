use Rattle.abs_value.specs.Lookups.{slot_with_answer}
use Rattle.abs_value.proofs.Lists.{IsMapped}
use Rattle.abs_value.proofs.stack.answer_from.Given as goal

abbrev pub invariant-loop-i : goal.invariant-loop-i
invariant-loop-i l = IsMapped (slot_with_answer l.call l.found) l.fn.stack l.i l.stack
