use Rattle.load.proofs.Making.{opened_is_made}
use Rattle.load.proofs.laws.opened_is_made.Goals as goal

pub returns : goal.returns
returns c = opened_is_made
