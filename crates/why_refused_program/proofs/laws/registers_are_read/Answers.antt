use Rattle.why_refused_program.proofs.Registers.{registers_are_read}
use Rattle.why_refused_program.proofs.laws.registers_are_read.Goals as goal

pub returns : goal.returns
returns c = registers_are_read
