use Rattle.std.proofs.Common.{refl}
use Rattle.bpf_semantics.specs.Run.{last, more}
use Rattle.worked_examples.proofs.programs.jumps.Goals as goal

pub returns : goal.returns
returns c = record {
  short = λ a shape. more refl (more refl (last refl refl));
  long = λ a shape. more refl (more refl (last refl refl));
  back = λ a shape. more refl (more refl (more refl (last refl refl)));
  over_wide = λ a shape. more refl (more refl (last refl refl));
}
