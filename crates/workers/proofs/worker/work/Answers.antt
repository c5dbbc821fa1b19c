use Rattle.workers.proofs.worker.work.Goals as goal

pub returns : goal.returns
returns g c = c.attend_all.ensures.back
