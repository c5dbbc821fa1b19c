use Rattle.std.proofs.Common.{refl}
use Rattle.bpf_semantics.specs.Run.{last, more}
use Rattle.worked_examples.proofs.memory.negative_loads.Goals as goal

pub returns : goal.returns
returns c = record {
  ldxb = λ a shape. more refl (more refl (last refl refl));
  ldxh = λ a shape. more refl (more refl (last refl refl));
  ldxw = λ a shape. more refl (more refl (last refl refl));
  ldxdw = λ a shape. more refl (more refl (last refl refl));
  ldsxb = λ a shape. more refl (more refl (last refl refl));
  ldsxh = λ a shape. more refl (more refl (last refl refl));
  ldsxw = λ a shape. more refl (more refl (last refl refl));
}
