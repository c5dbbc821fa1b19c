use Rattle.std.proofs.Common.{refl}
use Rattle.bpf_semantics.specs.Run.{now}
use Rattle.worked_examples.proofs.traps.frame_writes.Goals as goal

pub returns : goal.returns
returns c = record {
  mov = λ a shape. now refl refl;
  add = λ a shape. now refl refl;
  load = λ a shape. now refl refl;
  wide = λ a shape. now refl refl;
}
