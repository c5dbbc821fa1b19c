use Rattle.std.proofs.Common.{refl}
use Rattle.bpf_semantics.specs.Run.{last, more}
use Rattle.worked_examples.proofs.programs.halves.Goals as goal

pub returns : goal.returns
returns c = record {
  whole = λ a shape. more refl (more refl (more refl (more refl (last refl refl))));
  low = λ a shape. more refl (more refl (more refl (last refl refl)));
}
