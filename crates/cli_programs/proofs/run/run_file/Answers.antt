use Rattle.std.proofs.Common.{inr}
use Rattle.cli_programs.proofs.run.run_file.Goals as goal

pub returns-in-Err-clause-fault : goal.returns-in-Err-clause-fault
returns-in-Err-clause-fault g c = inr c.in-Err.ensures.fault
