use Rattle.abs_value.proofs.Joins.{states-comm}
use Rattle.abs_value.proofs.laws.joins_commute.Goals as goal

pub returns : goal.returns
returns c = states-comm
