use Rattle.stage_rules.proofs.Several.{several}
use Rattle.stage_rules.proofs.raising.raised_of.Goals as goal

pub returns-then-count-gt1-clause-fault : goal.returns-then-count-gt1-clause-fault
returns-then-count-gt1-clause-fault c =
    several c.args.shape.now c.args.text.now c.args.rule.now c.statements.result.now
    c.threshold_count-count.result c.requires.was c.statements.ensures
    c.threshold_count-count.ensures c.if-count-gt1.true
