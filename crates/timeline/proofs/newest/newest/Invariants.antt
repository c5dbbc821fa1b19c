use Rattle.std.proofs.Common.{◌≡◌, length}
use Rattle.timeline.specs.Newest as specs
use Rattle.timeline.proofs.newest.newest.Given as goal

-- the remaining bins decide
abbrev pub invariant-loop-ended : goal.invariant-loop-ended
invariant-loop-ended l =
    specs.newest l.ended l.failed ≡ specs.newest l.installs l.failures

abbrev pub decreases-loop-ended : goal.decreases-loop-ended
decreases-loop-ended l = length l.ended
