use Rattle.std.proofs.Common.{inr}
use Rattle.cli_inspection.proofs.tracing.trace_file.Goals as goal

pub returns-in-Err-clause-fault : goal.returns-in-Err-clause-fault
returns-in-Err-clause-fault g c = inr c.in-Err.ensures.fault
