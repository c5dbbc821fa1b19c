use Rattle.std.proofs.Common.{refl}
use Rattle.bpf_semantics.specs.Run.{now, later}
use Rattle.worked_examples.proofs.counter_traps.frame_writes_of_counters.Goals as goal

pub returns : goal.returns
returns c = record {
  load = λ b. later refl (later refl (now refl refl));
  fetch = λ b. later refl (later refl (now refl refl));
  exchange = λ b. later refl (later refl (now refl refl));
  map = λ b. now refl refl;
  cell = λ b. now refl refl;
}
