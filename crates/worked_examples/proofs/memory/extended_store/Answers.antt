use Rattle.std.proofs.Common.{refl}
use Rattle.bpf_semantics.specs.Run.{last, more}
use Rattle.worked_examples.proofs.memory.extended_store.Goals as goal

pub returns : goal.returns
returns c = λ a shape. more refl (more refl (last refl refl))
