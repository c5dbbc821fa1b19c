use Rattle.bpf_insn.proofs.Exact.{exclusive, row_insn, row_least}
use Rattle.bpf_insn.proofs.decoder.row_at.Goals as goal

pub returns-in-Wide-clause-exclusive : goal.returns-in-Wide-clause-exclusive
returns-in-Wide-clause-exclusive c =
    exclusive c.args.bytes.now c.args.slot c.args.form c.args.first c.requires.first c.requires.row

pub returns-in_default-clause-insn : goal.returns-in_default-clause-insn
returns-in_default-clause-insn c = row_insn c.args.bytes.now c.args.slot c.args.form c.args.first
    c.insn_in.result c.requires.first c.requires.row c.in_default.not-Wide c.insn_in.ensures.insn

pub returns-in_default-clause-fault : goal.returns-in_default-clause-fault
returns-in_default-clause-fault c = row_least c.args.bytes.now c.args.slot c.args.form c.args.first
    c.insn_in.result c.requires.first c.requires.row c.in_default.not-Wide c.insn_in.ensures.fault

pub returns-in_default-clause-exclusive : goal.returns-in_default-clause-exclusive
returns-in_default-clause-exclusive c =
    exclusive c.args.bytes.now c.args.slot c.args.form c.args.first c.requires.first c.requires.row
