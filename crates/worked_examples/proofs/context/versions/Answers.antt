use Rattle.std.proofs.Common.{refl, ap}
use Rattle.bpf_insn.specs.declared.reg.Reg.TheVariants.{R2}
use Rattle.bpf_semantics.specs.Run.{last, more}
use Rattle.bpf_semantics.specs.State.{opening}
use Rattle.bpf_semantics.specs.Outcome.{write}
use Rattle.worked_examples.proofs.ContextReads.{version_read}
use Rattle.worked_examples.proofs.context.versions.Goals as goal

pub returns : goal.returns
returns c = record {
  small = λ a e shape. more (ap (write (opening a) 1 R2) (version_read a e))
      (more refl (more refl (more refl (last refl refl))));
  largest = λ a e shape. more (ap (write (opening a) 1 R2) (version_read a e))
      (more refl (more refl (last refl refl)));
}
