use Rattle.std.proofs.Common.{refl}
use Rattle.bpf_semantics.specs.Run.{now, later}
use Rattle.worked_examples.proofs.traps.unset_places.Goals as goal

pub returns : goal.returns
returns c = record {
  left = λ a shape. now refl refl;
  right = λ a shape. later refl (now refl refl);
  load = λ a shape. now refl refl;
  store = λ a shape. now refl refl;
  value = λ a shape. now refl refl;
}
