use Rattle.std.proofs.Common.{refl}
use Rattle.bpf_semantics.specs.Run.{last, more, operated}
use Rattle.worked_examples.proofs.counters.loads_of_counters.Goals as goal

pub returns : goal.returns
returns c = λ value b. more refl
    (more refl (more refl (more refl (more refl (operated refl (more refl (last refl refl)))))))
