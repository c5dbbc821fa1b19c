use Rattle.workers.proofs.Lines.{of_some_line}
use Rattle.workers.proofs.operating.attend.Goals as goal

pub returns-clause-answers : goal.returns-clause-answers
returns-clause-answers g c =
    of_some_line (g.L.Loader.loads c.args.parts.now.loader.now) (g.C.CellSteps.grew) _ _ _ _ _ _
    c.in-Some-answer.ensures.answers
