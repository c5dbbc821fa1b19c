use Rattle.bpf_insn.proofs.Halves.{encoding_spells}
use Rattle.bpf_insn.proofs.encoder.encode.Goals as goal

pub returns-clause-spells : goal.returns-clause-spells
returns-clause-spells c =
    encoding_spells _ c.args.insn.now c.halves_in.ensures.fits c.halves_in.ensures.bytes
