use Rattle.std.proofs.Common.{◌-◌, ◌≤◌, length}
use Rattle.access_log.specs.Plain.{ArePlainBetween}
use Rattle.access_log.proofs.unescaped.long_plain.Given as goal

abbrev pub invariant-loop-at : goal.invariant-loop-at
invariant-loop-at l = (l.at ≤ length l.text) × ArePlainBetween l.text 0 l.at

abbrev pub decreases-loop-at : goal.decreases-loop-at
decreases-loop-at l = length l.text - l.at
