use Rattle.why_refused_manifest.proofs.Long.{fails_if_long}
use Rattle.why_refused_manifest.proofs.checking.too_long.Goals as goal

pub returns : goal.returns
returns c = fails_if_long _ c.report_refused.ensures.fault c.report_refused.ensures.reported
