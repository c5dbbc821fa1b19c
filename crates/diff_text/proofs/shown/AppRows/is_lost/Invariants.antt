use Rattle.std.proofs.Common.{◌≡◌, length}
use Rattle.diff_text.specs.Shown.{some_shown_lost}
use Rattle.diff_text.proofs.shown.AppRows.is_lost.Given as goal

-- the remaining rows decide
abbrev pub invariant-loop-left : goal.invariant-loop-left
invariant-loop-left l =
    some_shown_lost l.left ≡ some_shown_lost l.self.rows.items

abbrev pub decreases-loop-left : goal.decreases-loop-left
decreases-loop-left l = length l.left
