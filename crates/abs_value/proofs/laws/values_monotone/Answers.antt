use Rattle.std.proofs.Common.{arith}
use Rattle.bpf_insn.specs.declared.operand.AluOp.TheVariants.{Sub}
use Rattle.abs_value.specs.declared.value.Abs.TheVariants.{Num}
use Rattle.abs_value.specs.Numbers.{single}
use Rattle.abs_value.proofs.Order.{alu_in_order, copied_in_order, extended_in_order}
use Rattle.abs_value.proofs.Order.{reordered_in_order, loaded_in_order, refined_in_order}
use Rattle.abs_value.proofs.Order.{join_in_order, with_answer_in_order, call_in_order}
use Rattle.abs_value.proofs.laws.values_monotone.Goals as goal

pub returns : goal.returns
returns c = record {
  alu = alu_in_order;
  copied = copied_in_order;
  negated = λ w a h. alu_in_order w Sub (Num (single 0)) a (omega arith) h;
  extended = λ e a h. extended_in_order e a;
  reordered = λ o n a h. reordered_in_order o n a;
  loaded = loaded_in_order;
  refined = refined_in_order;
  joined = join_in_order;
  answered = with_answer_in_order;
  called = call_in_order;
}
