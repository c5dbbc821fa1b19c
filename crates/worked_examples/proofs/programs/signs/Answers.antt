use Rattle.std.proofs.Common.{refl}
use Rattle.bpf_semantics.specs.Run.{last, more}
use Rattle.worked_examples.proofs.programs.signs.Goals as goal

pub returns : goal.returns
returns c = record {
  signed = λ a shape. more refl (more refl (more refl (last refl refl)));
  unsigned = λ a shape. more refl (more refl (more refl (more refl (last refl refl))));
}
