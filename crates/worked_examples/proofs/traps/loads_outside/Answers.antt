use Rattle.std.proofs.Common.{refl}
use Rattle.bpf_semantics.specs.Run.{now}
use Rattle.worked_examples.proofs.traps.loads_outside.Goals as goal

pub returns : goal.returns
returns c = record {
  past_context = λ a shape. now refl refl;
  across_end = λ a shape. now refl refl;
  before_context = λ a shape. now refl refl;
  above_stack = λ a shape. now refl refl;
  below_stack = λ a shape. now refl refl;
}
