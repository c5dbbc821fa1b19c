use Rattle.std.proofs.Common.{◌≡◌, ◌++◌, length}
use Rattle.json.specs.Value.{value_view}
use Rattle.report.specs.Borrowed.{data_of}
use Rattle.report.specs.Members.{each_status}
use Rattle.report.proofs.log_line.each_status.Given as goal

-- the statuses so far and the remaining ones make the whole
abbrev pub invariant-loop-left : goal.invariant-loop-left
invariant-loop-left l =
    l.found.items ++ each_status (data_of (value_view l.line)) l.left
    ≡ each_status (data_of (value_view l.line)) l.statuses

abbrev pub decreases-loop-left : goal.decreases-loop-left
decreases-loop-left l = length l.left
