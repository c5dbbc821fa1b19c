use Rattle.cells.proofs.Growing.{GrewBy-snoc, GrewBy-append}
use Rattle.cells.proofs.steps.growth.Goals as goal

pub returns-clause-snoc : goal.returns-clause-snoc
returns-clause-snoc g c = GrewBy-snoc g.C.CellSteps.grew

pub returns-clause-append : goal.returns-clause-append
returns-clause-append g c = GrewBy-append g.C.CellSteps.grew
