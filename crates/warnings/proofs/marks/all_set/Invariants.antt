use Rattle.std.proofs.Common.{◌≡◌, Bool, length}
use Rattle.std.specs.List.{list_all}
use Rattle.warnings.proofs.marks.all_set.Given as goal

-- the remaining marks decide
abbrev pub invariant-loop-left : goal.invariant-loop-left
invariant-loop-left l = list_all (λ (m : Bool). m) l.left ≡ list_all (λ (m : Bool). m) l.marks

abbrev pub decreases-loop-left : goal.decreases-loop-left
decreases-loop-left l = length l.left
