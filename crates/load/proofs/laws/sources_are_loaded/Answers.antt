use Rattle.load.proofs.Gathers.{sources_are_loaded}
use Rattle.load.proofs.laws.sources_are_loaded.Goals as goal

pub returns : goal.returns
returns c = sources_are_loaded
