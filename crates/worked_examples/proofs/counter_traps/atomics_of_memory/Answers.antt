use Rattle.std.proofs.Common.{refl}
use Rattle.bpf_semantics.specs.Run.{now, later}
use Rattle.worked_examples.proofs.counter_traps.atomics_of_memory.Goals as goal

pub returns : goal.returns
returns c = record {
  context = λ a shape. later refl (now refl refl);
  fetch = λ a shape. later refl (now refl refl);
  stack = λ a shape. later refl (now refl refl);
}
