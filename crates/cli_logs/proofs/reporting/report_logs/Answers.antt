use Rattle.std.proofs.Common.{Bool, [], is_some, length, subst}
use Rattle.cli_logs.specs.Reports.{HasReported}
use Rattle.cli_logs.proofs.reporting.report_logs.Goals as goal
use Rattle.report.specs.Counts.{Counts}
use Rattle.report.specs.declared.window.Window.{Window}

pub output_of_logs-output-requires : goal.output_of_logs-output-requires
output_of_logs-output-requires g c =
    subst (λ (drawn : Bool). (window : Window) → Counts window [] drawn c.in_ok-report.report)
    c.is_drawn.ensures c.in_ok-report.ensures

pub returns : goal.returns
returns g c =
    subst (λ (pictured : Bool). HasReported (length c.args.logs.now) c.args.since c.args.until
    c.args.form pictured (is_some c.args.page) c.in_ok-output.output) c.is_some.ensures
    (subst (λ (paged : Bool). HasReported (length c.args.logs.now) c.args.since c.args.until
    c.args.form c.is_some.result paged c.in_ok-output.output) c.is_some-2.ensures
    c.in_ok-output.ensures)
