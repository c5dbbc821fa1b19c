use Rattle.std.proofs.Common.{refl}
use Rattle.bpf_semantics.specs.Run.{last, more}
use Rattle.worked_examples.proofs.memory.round_trips.Goals as goal

pub returns : goal.returns
returns c = record {
  whole = λ a shape. more refl (more refl (more refl (last refl refl)));
  joined = λ a shape. more refl (more refl (more refl (more refl (more refl (last refl refl)))));
}
