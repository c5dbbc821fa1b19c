use Rattle.world.proofs.InTime.{in_time}
use Rattle.world.proofs.laws.ends_in_time.Goals as goal

pub returns : goal.returns
returns c = in_time (record { counts = c.counts_instructions.ensures; fit = c.events_fit.ensures })
