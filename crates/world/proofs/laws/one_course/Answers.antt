use Rattle.world.proofs.Course.{one_course}
use Rattle.world.proofs.laws.one_course.Goals as goal

pub returns : goal.returns
returns c = one_course
    (record { counts = c.counts_instructions.ensures; fit = c.events_fit.ensures })
