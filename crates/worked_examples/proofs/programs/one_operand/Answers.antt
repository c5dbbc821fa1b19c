use Rattle.std.proofs.Common.{refl}
use Rattle.bpf_semantics.specs.Run.{last, more}
use Rattle.worked_examples.proofs.programs.one_operand.Goals as goal

pub returns : goal.returns
returns c = record {
  movsx8 = λ a shape. more refl (more refl (more refl (last refl refl)));
  movsx8w = λ a shape. more refl (more refl (last refl refl));
  neg32 = λ a shape. more refl (more refl (last refl refl));
  be16 = λ a shape. more refl (more refl (last refl refl));
}
