use Rattle.std.proofs.Common.{arith}
use Rattle.bpf_insn.specs.declared.form.Form.TheVariants.{Wide}
use Rattle.bpf_insn.proofs.Exact.{least_of_row, least_of_second, the_wide}
use Rattle.bpf_insn.proofs.decoder.wide_at.Goals as goal

pub returns-in-Some-common_fault-clause-fault : goal.returns-in-Some-common_fault-clause-fault
returns-in-Some-common_fault-clause-fault c =
    least_of_row c.args.bytes.now c.args.slot Wide c.args.first _ c.requires.first c.requires.row
    (λ _. omega (arith, c.in-Some.ensures.room)) c.in-Some-common_fault.ensures.fault

pub returns-then-not-is_second_half-clause-fault : goal.returns-then-not-is_second_half-clause-fault
returns-then-not-is_second_half-clause-fault c = least_of_second c.args.bytes.now c.args.slot
    c.args.first _ c.requires.first c.in-Some.ensures.some c.requires.row
    c.in_default-common_fault.ensures.none (λ h. absurd (cc (c.if-not-is_second_half.ensures.1 h)))

pub returns-clause-insn : goal.returns-clause-insn
returns-clause-insn c = the_wide c.args.bytes.now c.args.slot c.args.first _ _ c.requires.first
    c.in-Some.ensures.some c.requires.row c.wide_in.ensures
