use Rattle.std.proofs.Common.{◌≡◌, length}
use Rattle.report.specs.Questions as specs
use Rattle.report.proofs.counting.tally_named.Given as goal

-- the remaining tables decide
abbrev pub invariant-loop-asked : goal.invariant-loop-asked
invariant-loop-asked l =
    specs.tally_named l.name l.asked l.left ≡ specs.tally_named l.name l.questions l.tallies

abbrev pub decreases-loop-asked : goal.decreases-loop-asked
decreases-loop-asked l = length l.asked
