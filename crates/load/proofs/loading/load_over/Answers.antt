use Rattle.load.proofs.loading.load_over.Goals as goal

pub returns-in-Err-clause-loads : goal.returns-in-Err-clause-loads
returns-in-Err-clause-loads g c = c.in-Err.ensures.fault.fault_is
