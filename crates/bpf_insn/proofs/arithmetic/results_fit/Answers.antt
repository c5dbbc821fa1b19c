use Rattle.bpf_insn.proofs.Widths.{fits_width}
use Rattle.bpf_insn.proofs.arithmetic.results_fit.Goals as goal

pub returns : goal.returns
returns c = fits_width
