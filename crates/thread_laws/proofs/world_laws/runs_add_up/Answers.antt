use Rattle.thread_laws.proofs.InTurn.{none_of_runs, of_runs_append, of_runs_stay}
use Rattle.thread_laws.proofs.world_laws.runs_add_up.Goals as goal

pub returns-clause-none : goal.returns-clause-none
returns-clause-none c = none_of_runs

pub returns-clause-append : goal.returns-clause-append
returns-clause-append c = of_runs_append

pub returns-clause-stay : goal.returns-clause-stay
returns-clause-stay c = of_runs_stay
