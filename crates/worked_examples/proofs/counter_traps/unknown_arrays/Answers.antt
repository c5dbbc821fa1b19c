use Rattle.std.proofs.Common.{refl}
use Rattle.bpf_semantics.specs.Run.{now}
use Rattle.worked_examples.proofs.counter_traps.unknown_arrays.Goals as goal

pub returns : goal.returns
returns c = record {
  map = λ b. now refl refl;
  negative_map = λ b. now refl refl;
  cell = λ b. now refl refl;
  negative_cell = λ b. now refl refl;
}
