use Rattle.bpf_semantics.specs.Program.{shaped}
use Rattle.bpf_verify.specs.Entries.{current_entry}
use Rattle.bpf_verify.proofs.Visits.{end_accepted}
use Rattle.bpf_verify.proofs.walk.end_is_accepted.Goals as goal

pub returns : goal.returns
returns c = λ code shape k w le swept.
    end_accepted (shaped code shape) k (current_entry w.entries) w.entries.waiting le swept
