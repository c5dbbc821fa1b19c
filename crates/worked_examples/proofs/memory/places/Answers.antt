use Rattle.std.proofs.Common.{refl}
use Rattle.bpf_semantics.specs.Run.{last, more}
use Rattle.worked_examples.proofs.memory.places.Goals as goal

pub returns : goal.returns
returns c = record {
  unaligned = λ a shape. more refl (more refl (last refl refl));
  lowest = λ a shape. more refl (more refl (last refl refl));
}
