use Rattle.std.proofs.Common.{◌∙◌, refl}
use Rattle.why_refused_manifest.proofs.Passing.{fails_by, judged_shaped, passes_apps}
use Rattle.why_refused_manifest.proofs.checking.check_apps.Goals as goal

pub report_accepted-requires-clause-shaped : goal.report_accepted-requires-clause-shaped
report_accepted-requires-clause-shaped c =
    judged_shaped _ _ _ c.in-Ok.ensures.judged c.requires

pub returns-in-Ok-report_accepted-clause-passes : goal.returns-in-Ok-report_accepted-clause-passes
returns-in-Ok-report_accepted-clause-passes c =
    passes_apps _ _ _ _ c.in-Ok.ensures.judged c.in-Ok-report_accepted.ensures

pub returns-in-Err-report_accepted-clause-fails : goal.returns-in-Err-report_accepted-clause-fails
returns-in-Err-report_accepted-clause-fails c =
    c.out_of_memory.ensures.reported c.args.sources (c.len-read.ensures ∙ c.args.sources.apps.ok.0)
    refl

pub returns-in-Err-clause-fails : goal.returns-in-Err-clause-fails
returns-in-Err-clause-fails c =
    fails_by c.args.sources c.in-Err.refused.sources c.in-Err.refused.fault _
    c.in-Err.ensures.fault c.in-Err.ensures.sources
    c.refuse_sources.ensures.fault c.refuse_sources.ensures.reported
