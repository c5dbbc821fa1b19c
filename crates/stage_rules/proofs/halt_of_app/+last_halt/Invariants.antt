use Rattle.std.proofs.Common.{length}
use Rattle.stage_rules.proofs.halt_of_app.«+last_halt».Given as goal

abbrev pub decreases-last_halt : goal.decreases-last_halt
decreases-last_halt l = length l.steps.now
