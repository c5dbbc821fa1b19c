use Rattle.load.proofs.OneOutcome.{same_load}
use Rattle.load.proofs.OneJudgement.{one_judgement}
use Rattle.load.proofs.OnePath.{same_path}
use Rattle.load.proofs.laws.one_load.Goals as goal

pub returns-clause-load : goal.returns-clause-load
returns-clause-load c = λ files old bytes r s new last known.
    same_load files old bytes c.one_reading.ensures c.lists_declare_one_way.ensures
    c.one_verdict.ensures c.one_verdict-2.ensures known r s new last

pub returns-clause-path : goal.returns-clause-path
returns-clause-path c = λ files place old r s known.
    same_path (returns-clause-load c) files place old r s known

pub returns-clause-judgement : goal.returns-clause-judgement
returns-clause-judgement c = one_judgement c.one_verdict-2.ensures c.one_verdict.ensures
