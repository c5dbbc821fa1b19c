use Rattle.bpf_text.proofs.Statements.{kinds_agree}
use Rattle.bpf_text.proofs.laws.kinds_agree.Goals as goal

pub returns : goal.returns
returns c = kinds_agree
