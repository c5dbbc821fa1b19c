use Rattle.world.proofs.OwnRun.{own_run, started_own_run, own_release}
use Rattle.world.proofs.laws.finishes_its_run.Goals as goal

pub returns-clause-own : goal.returns-clause-own
returns-clause-own c = own_run

pub returns-clause-started : goal.returns-clause-started
returns-clause-started c = started_own_run

pub returns-clause-release : goal.returns-clause-release
returns-clause-release c =
    own_release (record { counts = c.counts_instructions.ensures; fit = c.events_fit.ensures })
