use Rattle.std.proofs.Common.{refl}
use Rattle.bpf_semantics.specs.Run.{last, more, operated}
use Rattle.worked_examples.proofs.counters.narrow_counters.Goals as goal

pub returns : goal.returns
returns c = record {
  ends = λ b. more refl (more refl (operated refl
      (more refl (operated refl
      (more refl (more refl (operated refl (more refl (last refl refl)))))))));
  values = (refl, refl, (refl, refl, (refl, refl, tt)));
  fetched =
      λ b. more refl
      (more refl (operated refl (more refl (operated refl (more refl (last refl refl))))));
}
