use Rattle.std.proofs.Common.{◌≡◌, ◌++◌, length}
use Rattle.json.specs.Value.{items_view}
use Rattle.report.specs.Borrowed.{items_data}
use Rattle.report.specs.Members.{each_app}
use Rattle.report.proofs.log_line.each_app.Given as goal

-- the apps so far and the remaining ones make the whole
abbrev pub invariant-loop-left : goal.invariant-loop-left
invariant-loop-left l =
    l.apps.items ++ each_app (items_data (items_view l.left))
    ≡ each_app (items_data (items_view l.values))

abbrev pub decreases-loop-left : goal.decreases-loop-left
decreases-loop-left l = length l.left
