use Rattle.std.proofs.Common.{◌≡◌, ◌++◌, length, map}
use Rattle.serde_json.specs.View.{view}
use Rattle.diff_text.specs.Objects.{row_object}
use Rattle.diff_text.proofs.objects.objects_of.Given as goal

-- the values so far, and the remaining rows
abbrev pub invariant-loop-left : goal.invariant-loop-left
invariant-loop-left l =
    map view l.values.items ++ map row_object l.left ≡ map row_object l.rows

abbrev pub decreases-loop-left : goal.decreases-loop-left
decreases-loop-left l = length l.left
