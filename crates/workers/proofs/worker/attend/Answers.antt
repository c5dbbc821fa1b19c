use Rattle.workers.proofs.worker.attend.Goals as goal

pub returns-clause-back : goal.returns-clause-back
returns-clause-back g c = c.answer_within-outcome.ensures.back.connection
