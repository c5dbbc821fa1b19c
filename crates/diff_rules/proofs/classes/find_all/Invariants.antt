use Rattle.std.proofs.Common.{◌-◌, ◌∷◌, [], ◌≤◌}
use Rattle.diff_rules.specs.Search.{LosesNoMachine}
use Rattle.diff_rules.proofs.classes.find_all.Given as goal

-- a machine that agrees with the first partial place is in a class, or is left
abbrev pub invariant-loop-pending : goal.invariant-loop-pending
invariant-loop-pending l =
    LosesNoMachine l.space [] (l.fn.first ∷ []) l.classes.items l.left.items × (l.count ≤ l.most)

abbrev pub decreases-loop-pending : goal.decreases-loop-pending
decreases-loop-pending l = l.most - l.count
