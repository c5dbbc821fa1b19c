use Rattle.bpf_insn.proofs.decoder.decode_at.Goals as goal

pub returns-in-Ok-clause-fault_only : goal.returns-in-Ok-clause-fault_only
returns-in-Ok-clause-fault_only c =
    λ e h. absurd (c.insn_at.ensures.exclusive c.in-Ok.insn e c.in-Ok.ensures.insn.spells h.has)

pub returns-in-Err-clause-only : goal.returns-in-Err-clause-only
returns-in-Err-clause-only c =
    λ i p. absurd (c.insn_at.ensures.exclusive i c.in-Err.fault p c.in-Err.ensures.fault.has)
