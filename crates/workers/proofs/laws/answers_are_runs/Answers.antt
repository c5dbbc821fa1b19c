use Rattle.workers.proofs.OfRuns.{answers_are_of_runs}
use Rattle.workers.proofs.Turns.{turns_go_onwards, turns_stay}
use Rattle.workers.proofs.laws.answers_are_runs.Goals as goal

pub returns-clause-runs : goal.returns-clause-runs
returns-clause-runs c =
    let laws = c.runs_add_up.ensures in
    answers_are_of_runs (record { nothing = laws.none; append = laws.append; stay = laws.stay })

pub returns-clause-onwards : goal.returns-clause-onwards
returns-clause-onwards c = turns_go_onwards

pub returns-clause-stay : goal.returns-clause-stay
returns-clause-stay c = turns_stay
