use Rattle.std.proofs.Common.{sym, ◌∙◌}
use Rattle.std.proofs.lemmas.Option.{none-some}
use Rattle.bpf_insn.proofs.Operations.{alu_fault}
use Rattle.bpf_insn.proofs.build.arithmetic.alu_in.Goals as goal

pub returns-in-None-clause-fault : goal.returns-in-None-clause-fault
returns-in-None-clause-fault c =
    alu_fault c.args.bits c.args.code c.args.source c.args.fields c.requires
    (λ op is. none-some op (sym c.in-None.is ∙ c.alu_op_in.ensures.only op is))
