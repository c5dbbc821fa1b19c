use Rattle.std.proofs.Common.{refl}
use Rattle.bpf_semantics.specs.Run.{now, later}
use Rattle.worked_examples.proofs.counter_traps.signed_load.Goals as goal

pub returns : goal.returns
returns c = λ b. later refl (later refl (now refl refl))
