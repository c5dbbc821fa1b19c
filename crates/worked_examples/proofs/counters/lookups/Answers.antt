use Rattle.std.proofs.Common.{refl}
use Rattle.bpf_semantics.specs.Run.{last, more, now, later}
use Rattle.worked_examples.proofs.counters.lookups.Goals as goal

pub returns : goal.returns
returns c = record {
  found = λ b. more refl (more refl (more refl (more refl (more refl (last refl refl)))));
  missing = λ b. more refl (more refl (more refl (more refl (more refl (last refl refl)))));
  unchecked = λ b. later refl (later refl (later refl (now refl refl)));
}
