use Rattle.std.proofs.Common.{refl}
use Rattle.bpf_semantics.specs.Run.{now, later}
use Rattle.worked_examples.proofs.counter_traps.unset_arguments.Goals as goal

pub returns : goal.returns
returns c = record {
  store = λ b. later refl (later refl (now refl refl));
  value = λ b. later refl (later refl (now refl refl));
  base = λ b. later refl (later refl (now refl refl));
  compared = λ b. later refl (later refl (now refl refl));
}
