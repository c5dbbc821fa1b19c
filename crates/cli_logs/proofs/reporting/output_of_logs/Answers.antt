use Rattle.std.proofs.Common.{List, Option, string_bytes, subst, sym, ℕ}
use Rattle.report.specs.declared.metrics.MetricKind.{MetricKind}
use Rattle.report.specs.declared.window.Window.{Window}
use Rattle.cli_logs.proofs.Logs.{has_reported}
use Rattle.cli_logs.specs.Reports.{IsTextBy, IsTimeIf}
use Rattle.cli_logs.proofs.reporting.output_of_logs.Goals as goal

pub returns-in-Ok : goal.returns-in-Ok
returns-in-Ok g c =
    let window : Window = record {
      since = c.text_of.result;
      until = c.text_of-2.result;
    } in
    has_reported _ c.args.since c.args.until c.args.form c.args.drawn.picture c.args.drawn.page
    c.in-Ok.output window
    c.args.report.now c.count_logs.new.report
    (subst (λ (o : Option (List ℕ)). IsTimeIf c.args.since o) (sym c.text_of.ensures)
    c.in_ok-since.ensures)
    (subst (λ (o : Option (List ℕ)). IsTimeIf c.args.until o) (sym c.text_of-2.ensures)
    c.in_ok-until.ensures) (c.requires window)
    c.in_ok-count_logs.ensures
    (subst (λ (k : MetricKind). IsTextBy c.args.form k c.count_logs.new.report
    (string_bytes c.in-Ok.output.text)) c.kind_of-kind.ensures c.in-Ok.ensures.text)
    c.in-Ok.ensures.picture c.in-Ok.ensures.page
