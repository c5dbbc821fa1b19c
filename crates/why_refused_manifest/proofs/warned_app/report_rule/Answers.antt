use Rattle.std.proofs.Common.{◌∙◌}
use Rattle.warnings.specs.Evaluation.{rule_of}
use Rattle.why_refused_manifest.proofs.AppWarnings.{added_rule}
use Rattle.why_refused_manifest.proofs.warned_app.report_rule.Goals as goal

pub returns : goal.returns
returns c =
    added_rule c.args.number c.args.budget c.args.app.now (rule_of c.of-evaluated.result)
    c.args.rule.now _ _ c.in_ok-left.left
    (c.of-evaluated.ensures.appid ∙ c.appid.ensures.appid) c.of-evaluated.ensures.shape
    (c.of-evaluated.ensures.releases ∙ c.releases.ensures.releases)
    (c.of-evaluated.ensures.rule ∙ c.statements.ensures) c.in_ok-left.ensures.reported
    c.in_ok-left.ensures.budget
