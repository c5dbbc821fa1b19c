use Rattle.std.proofs.Common.{refl}
use Rattle.why_refused_manifest.proofs.Passing.{reports_judged}
use Rattle.why_refused_manifest.proofs.accepted.report_accepted.Goals as goal

pub returns : goal.returns
returns c =
    reports_judged c.args.judged _ _ c.in-Ok.reported.items _ _ _ c.as_slice.ensures.value
    c.arrays.ensures.arrays refl c.as_slice-4.ensures.value c.in-Ok-supply.ensures
    c.in-Ok.ensures c.as_slice-5.ensures.value c.in-Ok-warning_text.ensures refl
