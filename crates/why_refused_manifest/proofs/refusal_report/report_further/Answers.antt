use Rattle.std.proofs.Common.{◌∙◌}
use Rattle.why_refused_manifest.proofs.FaultReports.{nine_reported}
use Rattle.why_refused_manifest.proofs.refusal_report.report_further.Goals as goal

pub returns : goal.returns
returns c =
    nine_reported _ _ _ _ _ _ _ _ _ c.in-Some.ensures c.truncate.ensures.items
    c.in_ok-reported.ensures
    (c.len.ensures ∙ c.in-Some.found.ok.0) c.saturating_sub-left_out.ensures
