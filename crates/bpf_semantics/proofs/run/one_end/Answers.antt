use Rattle.bpf_semantics.proofs.OneEnd.{one_end, no_trap}
use Rattle.bpf_semantics.proofs.run.one_end.Goals as goal

pub returns : goal.returns
returns c = record {
  same = λ p s es es' choice choice' count count' e r r'. one_end es' choice' count' e r r';
  no_trap = λ p s es es' choice count count' e r r'. no_trap es' count' e r r';
}
