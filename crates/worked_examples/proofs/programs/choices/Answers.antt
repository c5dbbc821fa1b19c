use Rattle.std.proofs.Common.{refl}
use Rattle.bpf_semantics.specs.Run.{last, more}
use Rattle.worked_examples.proofs.programs.choices.Goals as goal

pub returns : goal.returns
returns c = record {
  none = λ a shape. more refl (last refl refl);
  third = λ a shape. more refl (last refl refl);
}
