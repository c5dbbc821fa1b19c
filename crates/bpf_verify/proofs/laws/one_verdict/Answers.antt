use Rattle.bpf_verify.proofs.Verdicts.{one_verdict}
use Rattle.bpf_verify.proofs.laws.one_verdict.Goals as goal

pub returns : goal.returns
returns c = one_verdict
