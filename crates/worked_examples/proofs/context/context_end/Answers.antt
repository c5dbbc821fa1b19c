use Rattle.std.proofs.Common.{refl, ap}
use Rattle.bpf_insn.specs.declared.reg.Reg.TheVariants.{R0}
use Rattle.bpf_semantics.specs.Run.{last, more}
use Rattle.bpf_semantics.specs.State.{opening}
use Rattle.bpf_semantics.specs.Outcome.{write}
use Rattle.worked_examples.proofs.ContextReads.{last_byte_read, last_double_read}
use Rattle.worked_examples.proofs.context.context_end.Goals as goal

pub returns : goal.returns
returns c = record {
  byte = λ a shape. more (ap (write (opening a) 1 R0) (last_byte_read a)) (last refl refl);
  double = λ a shape. more (ap (write (opening a) 1 R0) (last_double_read a)) (last refl refl);
}
