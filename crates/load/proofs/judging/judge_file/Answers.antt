use Rattle.load.proofs.Keeping.{unread_fault}
use Rattle.load.proofs.judging.judge_file.Goals as goal

pub returns-in-None-clause-fault : goal.returns-in-None-clause-fault
returns-in-None-clause-fault c =
    unread_fault c.args.source.now c.args.kept.now c.args.shape.now c.in-None.is
