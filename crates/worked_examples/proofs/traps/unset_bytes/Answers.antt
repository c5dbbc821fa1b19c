use Rattle.std.proofs.Common.{refl}
use Rattle.bpf_semantics.specs.Run.{now, later}
use Rattle.worked_examples.proofs.traps.unset_bytes.Goals as goal

pub returns : goal.returns
returns c = record {
  word = λ a shape. later refl (later refl (now refl refl));
  low_unset = λ a shape. later refl (now refl refl);
  high_unset = λ a shape. later refl (now refl refl);
}
