use Rattle.abs_value.proofs.Stores.{covers_store}
use Rattle.abs_value.proofs.laws.stores_sound.Goals as goal

pub returns : goal.returns
returns c = covers_store
