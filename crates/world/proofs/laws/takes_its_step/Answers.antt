use Rattle.world.proofs.Workers.{steps_on}
use Rattle.world.proofs.laws.takes_its_step.Goals as goal

pub returns : goal.returns
returns c = steps_on
