use Rattle.std.proofs.Common.{refl}
use Rattle.bpf_semantics.specs.Run.{last, more}
use Rattle.worked_examples.proofs.programs.operands.Goals as goal

pub returns : goal.returns
returns c = record {
  extended = λ a shape. more refl (more refl (more refl (last refl refl)));
  not_extended = λ a shape. more refl (more refl (last refl refl));
  moved = λ a shape. more refl (last refl refl);
  cut = λ a shape. more refl (more refl (last refl refl));
}
