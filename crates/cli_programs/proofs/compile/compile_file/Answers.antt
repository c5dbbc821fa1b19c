use Rattle.cli_programs.proofs.Unwritten.{no_program}
use Rattle.cli_programs.proofs.compile.compile_file.Goals as goal

pub returns-in-Err-clause-fault : goal.returns-in-Err-clause-fault
returns-in-Err-clause-fault g c = no_program _ _ _ c.in-Err.fault c.in-Err.ensures.fault
