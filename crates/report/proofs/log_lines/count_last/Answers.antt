use Rattle.report.proofs.Read.{is_zero, no_line}
use Rattle.report.proofs.log_lines.count_last.Goals as goal

pub returns-then-is_empty : goal.returns-then-is_empty
returns-then-is_empty c =
    no_line c.args.window.now c.args.begun.now c.args.report.now
    (is_zero _ _ c.is_empty.ensures c.if-is_empty.true)
