use Rattle.bpf_text.proofs.Stated.{reads_as_stated}
use Rattle.bpf_text.proofs.laws.reads_as_stated.Goals as goal

pub returns : goal.returns
returns c = reads_as_stated
