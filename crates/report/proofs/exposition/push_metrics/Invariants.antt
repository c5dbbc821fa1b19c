use Rattle.std.proofs.Common.{◌≡◌, ◌++◌, length, string_bytes}
use Rattle.report.specs.Exposition.{metrics}
use Rattle.report.proofs.exposition.push_metrics.Given as goal

-- the text so far and the remaining metrics make the whole
abbrev pub invariant-loop-asked : goal.invariant-loop-asked
invariant-loop-asked l =
    string_bytes l.text ++ metrics l.kind l.report l.asked l.left
    ≡ string_bytes l.fn.text ++ metrics l.kind l.report l.questions l.tallies

abbrev pub decreases-loop-asked : goal.decreases-loop-asked
decreases-loop-asked l = length l.asked
