use Rattle.std.proofs.lemmas.Int.{to_z-of_z}
use Rattle.workers.proofs.Served.{unread, by_answer}
use Rattle.workers.proofs.worker.answer_within.Goals as goal

pub returns-in_default-clause-back : goal.returns-in_default-clause-back
returns-in_default-clause-back g c = unread _ _ (g.C.CellSteps.grew) _ _ _ c.requires

pub returns-clause-back : goal.returns-clause-back
returns-clause-back g c = let answered = c.answer_in-outcome.ensures in
    let fits = c.ranges.moment in
    let answers = simp to_z-of_z at answered.answers in
    by_answer _ _ (g.C.CellSteps.grew) _ _ _ _ _ _ answered.belongs answered.watched
    c.answer_in-outcome.result _ _ _ _ _ _ answers.replied answers.begun answers.unread
