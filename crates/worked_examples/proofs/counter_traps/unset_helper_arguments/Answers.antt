use Rattle.std.proofs.Common.{refl}
use Rattle.bpf_semantics.specs.Run.{now, later}
use Rattle.worked_examples.proofs.counter_traps.unset_helper_arguments.Goals as goal

pub returns : goal.returns
returns c = record {
  map = λ b. later refl (later refl (later refl (now refl refl)));
  key = λ b. later refl (now refl refl);
  number = λ a shape. later refl (later refl (later refl (now refl refl)));
  address = λ a shape. later refl (now refl refl);
  count = λ a shape. later refl (now refl refl);
  length = λ a shape. later refl (later refl (now refl refl));
  salt = λ a shape. later refl (later refl (now refl refl));
}
