use Rattle.std.proofs.Common.{refl}
use Rattle.bpf_semantics.specs.Run.{now}
use Rattle.worked_examples.proofs.traps.stores_outside.Goals as goal

pub returns : goal.returns
returns c = record {
  context_imm = λ a shape. now refl refl;
  context_register = λ a shape. now refl refl;
  above_stack = λ a shape. now refl refl;
  across_top = λ a shape. now refl refl;
  below_stack = λ a shape. now refl refl;
}
