use Rattle.std.proofs.Common.{◌≡◌, length}
use Rattle.std.specs.List.{list_any}
use Rattle.diff_rules.specs.Checks.{out_of_set}
use Rattle.diff_rules.proofs.checking.has_none.Given as goal

-- the remaining ones decide
abbrev pub invariant-loop-left : goal.invariant-loop-left
invariant-loop-left l =
    list_any (out_of_set l.partial) l.left ≡ list_any (out_of_set l.partial) l.row.sets

abbrev pub decreases-loop-left : goal.decreases-loop-left
decreases-loop-left l = length l.left
