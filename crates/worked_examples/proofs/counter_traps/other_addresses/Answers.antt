use Rattle.std.proofs.Common.{refl}
use Rattle.bpf_semantics.specs.Run.{now, later}
use Rattle.worked_examples.proofs.counter_traps.other_addresses.Goals as goal

pub returns : goal.returns
returns c = record {
  unaligned = λ b. later refl (later refl (now refl refl));
  upper_half = λ b. later refl (later refl (now refl refl));
  past = λ a shape. later refl (later refl (now refl refl));
  map = λ a shape. later refl (later refl (now refl refl));
}
