use Rattle.std.proofs.Common.{◌≡◌, ◌++◌, length, map}
use Rattle.diff_rules.specs.Contents.{content_number}
use Rattle.diff_rules.proofs.contents.numbers_of.Given as goal

-- the numbers so far, and those of the remaining releases
abbrev pub invariant-loop-left : goal.invariant-loop-left
invariant-loop-left l =
    l.numbers.items ++ map (content_number (l.old ++ l.new)) l.left
    ≡ map (content_number (l.old ++ l.new)) l.releases

abbrev pub decreases-loop-left : goal.decreases-loop-left
decreases-loop-left l = length l.left
