use Rattle.worked_examples.proofs.SetBytes.{stored_sets, slots_stay}
use Rattle.worked_examples.proofs.stores.stores_set_their_bytes.Goals as goal

pub returns : goal.returns
returns c = record { bytes = stored_sets; others = slots_stay }
