use Rattle.std.proofs.Common.{refl}
use Rattle.bpf_semantics.specs.Run.{now, later}
use Rattle.worked_examples.proofs.counter_traps.other_widths.Goals as goal

pub returns : goal.returns
returns c = record {
  load_word = λ b. later refl (later refl (now refl refl));
  store_word = λ b. later refl (later refl (now refl refl));
  store_byte = λ b. later refl (later refl (now refl refl));
  atomic_word = λ b. later refl (later refl (now refl refl));
  load_double = λ b. later refl (later refl (now refl refl));
  store_double = λ b. later refl (later refl (now refl refl));
  atomic_double = λ b. later refl (later refl (now refl refl));
}
