use Rattle.abs_value.proofs.Loads.{covers_load}
use Rattle.abs_value.proofs.laws.loads_sound.Goals as goal

pub returns : goal.returns
returns c = covers_load
