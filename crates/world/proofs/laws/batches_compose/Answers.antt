use Rattle.world.proofs.Plays.{joined, parted}
use Rattle.world.proofs.laws.batches_compose.Goals as goal

pub returns-clause-join : goal.returns-clause-join
returns-clause-join c = joined

pub returns-clause-part : goal.returns-clause-part
returns-clause-part c = parted
