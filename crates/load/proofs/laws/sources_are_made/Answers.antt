use Rattle.load.proofs.Making.{sources_are_made}
use Rattle.load.proofs.laws.sources_are_made.Goals as goal

pub returns : goal.returns
returns c = sources_are_made
