use Rattle.std.proofs.Common.{length}
use Rattle.why_refused_rule.proofs.trial.«+add_samples».Given as goal

abbrev pub decreases-add_samples : goal.decreases-add_samples
decreases-add_samples l = length l.among.now
