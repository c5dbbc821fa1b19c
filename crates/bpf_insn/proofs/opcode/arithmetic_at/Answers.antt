use Rattle.bpf_insn.proofs.Operations.{only_alu}
use Rattle.bpf_insn.proofs.opcode.arithmetic_at.Goals as goal

pub returns-in-Some-clause-only : goal.returns-in-Some-clause-only
returns-in-Some-clause-only c = only_alu c.args.opcode c.args.bits c.in-Some.code c.args.source
    c.requires.class c.requires.source c.in-Some.ensures.some c.in-Some.ensures.only
