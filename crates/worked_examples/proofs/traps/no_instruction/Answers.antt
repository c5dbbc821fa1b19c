use Rattle.std.proofs.Common.{refl}
use Rattle.bpf_semantics.specs.Run.{now, later}
use Rattle.worked_examples.proofs.traps.no_instruction.Goals as goal

pub returns : goal.returns
returns c = record {
  empty = λ a shape. now refl refl;
  end = λ a shape. later refl (now refl refl);
  past = λ a shape. later refl (now refl refl);
  before = λ a shape. now refl refl;
  second_half = λ a shape. later refl (now refl refl);
}
