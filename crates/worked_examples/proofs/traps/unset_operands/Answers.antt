use Rattle.std.proofs.Common.{refl}
use Rattle.bpf_semantics.specs.Run.{now, later}
use Rattle.worked_examples.proofs.traps.unset_operands.Goals as goal

pub returns : goal.returns
returns c = record {
  exit = λ a shape. now refl refl;
  add = λ a shape. now refl refl;
  add_register = λ a shape. later refl (now refl refl);
  mov = λ a shape. now refl refl;
  movsx = λ a shape. now refl refl;
  neg = λ a shape. now refl refl;
  end = λ a shape. now refl refl;
}
