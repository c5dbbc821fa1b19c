use Rattle.std.proofs.Common.{List, ◌++◌, [], length}
use Rattle.report.specs.Questions.{AreTallies}
use Rattle.report.specs.declared.tally.Tally.{Tally}
use Rattle.report.proofs.counting.empty_tallies.Given as goal

-- the tables so far and those of the remaining questions are all
abbrev pub invariant-loop-left : goal.invariant-loop-left
invariant-loop-left l = (last : List Tally) → AreTallies (λ q. []) l.left last
    → AreTallies (λ q. []) l.questions (l.tallies.items ++ last)

abbrev pub decreases-loop-left : goal.decreases-loop-left
decreases-loop-left l = length l.left
