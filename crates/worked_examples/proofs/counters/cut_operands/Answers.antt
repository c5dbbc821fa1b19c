use Rattle.std.proofs.Common.{refl}
use Rattle.bpf_semantics.specs.Run.{last, more, operated}
use Rattle.worked_examples.proofs.counters.cut_operands.Goals as goal

pub returns : goal.returns
returns c = λ reply b. more refl
    (more refl (operated refl (operated refl (more refl (last refl refl)))))
