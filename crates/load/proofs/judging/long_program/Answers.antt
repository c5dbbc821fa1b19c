use Rattle.load.proofs.Keeping.{long_program}
use Rattle.load.proofs.judging.long_program.Goals as goal

pub returns : goal.returns
returns c = long_program
