use Rattle.abs_value.proofs.Calls.{covers_call}
use Rattle.abs_value.proofs.laws.calls_sound.Goals as goal

pub returns : goal.returns
returns c = covers_call c.numbers_are_within.ensures
