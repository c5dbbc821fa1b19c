use Rattle.bpf_text.proofs.Exact.{one_assembly}
use Rattle.bpf_text.proofs.laws.one_assembly.Goals as goal

pub returns : goal.returns
returns c = one_assembly
