use Rattle.cli_logs.specs.Reports.{CountsLogs}
use Rattle.cli_logs.proofs.reporting.count_logs.Given as goal

-- the lines of the logs so far are counted
abbrev pub invariant-loop-path : goal.invariant-loop-path
invariant-loop-path g l = CountsLogs l.window l.path-index l.fn.report l.report
