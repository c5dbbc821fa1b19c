use Rattle.bpf_semantics.proofs.Next.{step_next}
use Rattle.bpf_semantics.proofs.count.counts_instructions.Goals as goal

pub returns : goal.returns
returns c = step_next
