use Rattle.abs_value.proofs.Loads.{bytes_there}
use Rattle.abs_value.proofs.laws.bytes_are_there.Goals as goal

pub returns : goal.returns
returns c = bytes_there
