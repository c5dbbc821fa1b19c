use Rattle.std.proofs.Common.{refl}
use Rattle.bpf_semantics.specs.Run.{last, more}
use Rattle.worked_examples.proofs.memory.partial_stores.Goals as goal

pub returns : goal.returns
returns c = record {
  half = λ a shape. more refl (more refl (more refl (more refl (last refl refl))));
  byte = λ a shape. more refl (more refl (more refl (last refl refl)));
}
