use Rattle.std.proofs.Common.{◌≡◌, false}
use Rattle.report_state.specs.Places.{KeepsApart}
use Rattle.cli_logs.specs.Reports.{CountsLogs}
use Rattle.cli_logs.proofs.new_lines.count_parts.Given as goal

-- the parts of the logs so far are counted, no place is forgotten, and unless something was read
-- the report is the same
abbrev pub invariant-loop-path : goal.invariant-loop-path
invariant-loop-path g l = CountsLogs l.window l.path-index l.fn.report l.report
    × KeepsApart l.initial.places.items l.places.items
    × (l.is_read ≡ false → l.report ≡ l.fn.report)
