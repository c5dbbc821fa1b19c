use Rattle.std.proofs.Common.{refl}
use Rattle.bpf_semantics.specs.Run.{last, more}
use Rattle.worked_examples.proofs.memory.positive_loads.Goals as goal

pub returns : goal.returns
returns c = record {
  ldsxb = λ a shape. more refl (more refl (last refl refl));
  ldsxh = λ a shape. more refl (more refl (last refl refl));
  ldsxw = λ a shape. more refl (more refl (last refl refl));
}
