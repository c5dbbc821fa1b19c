use Rattle.std.proofs.Common.{refl}
use Rattle.bpf_semantics.specs.Run.{now, later}
use Rattle.worked_examples.proofs.counter_traps.unknown_helpers.Goals as goal

pub returns : goal.returns
returns c = record {
  zero = λ a shape. now refl refl;
  five = λ a shape. now refl refl;
  negative = λ a shape. now refl refl;
  past_map = λ b. later refl (later refl (now refl refl));
  no_map = λ b. later refl (later refl (now refl refl));
}
