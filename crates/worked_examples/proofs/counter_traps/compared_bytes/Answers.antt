use Rattle.std.proofs.Common.{refl}
use Rattle.bpf_semantics.specs.Run.{now, later}
use Rattle.worked_examples.proofs.counter_traps.compared_bytes.Goals as goal

pub returns : goal.returns
returns c = record {
  long = λ a shape. later refl (later refl (later refl (later refl (later refl (now refl refl)))));
  across_top =
      λ a shape. later refl (later refl (later refl (later refl (later refl (now refl refl)))));
  below = λ a shape. later refl (later refl (later refl (later refl (later refl (now refl refl)))));
  unset = λ a shape. later refl (later refl (later refl (later refl (later refl (now refl refl)))));
}
