use Rattle.std.proofs.Common.{[]}
use Rattle.load.proofs.opened.collect_manifest.Goals as goal

pub returns-in-Err-clause-fault : goal.returns-in-Err-clause-fault
returns-in-Err-clause-fault g c = c.in-Err.ensures.fault []
