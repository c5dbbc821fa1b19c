use Rattle.std.proofs.Common.{refl}
use Rattle.bpf_semantics.specs.Run.{last, more, operated}
use Rattle.worked_examples.proofs.counters.takes.Goals as goal

pub returns : goal.returns
returns c = record {
  first = λ b. more refl (more refl (operated refl (more refl (more refl (last refl refl)))));
  second = λ b. more refl (more refl (operated refl (more refl (more refl (last refl refl)))));
  third = λ b. more refl (more refl (operated refl (more refl (more refl (last refl refl)))));
}
