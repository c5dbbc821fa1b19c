use Rattle.std.proofs.Common.{refl}
use Rattle.bpf_semantics.specs.Run.{last, more}
use Rattle.worked_examples.proofs.programs.wrapping.Goals as goal

pub returns : goal.returns
returns c = record {
  wraps = λ a shape. more refl (more refl (last refl refl));
  low_half = λ a shape. more refl (more refl (last refl refl));
  masked = λ a shape. more refl (more refl (last refl refl));
}
