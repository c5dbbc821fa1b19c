use Rattle.counter_store.proofs.Stored.{stored}
use Rattle.counter_store.proofs.laws.places_are_stored.Goals as goal

pub returns : goal.returns
returns c = stored c.arrays_lie_apart.ensures.apart c.arrays_lie_apart.ensures.wide
