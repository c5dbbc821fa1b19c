use Rattle.std.proofs.Common.{refl}
use Rattle.why_refused_manifest.proofs.AppWarnings.{adds_by_rule, adds_warnings}
use Rattle.why_refused_manifest.proofs.warned_app.report_app.Goals as goal

pub returns-in-None : goal.returns-in-None
returns-in-None c =
    adds_warnings c.args.number c.args.budget c.args.app.now c.args.app.now.rule refl _ _
    c.in-None.is c.in_ok-report_entry.ensures

pub returns-in_ok-left-in-Some : goal.returns-in_ok-left-in-Some
returns-in_ok-left-in-Some c =
    adds_by_rule c.args.number c.args.budget c.args.app.now c.args.app.now.rule refl
    c.in-Some.rule _ _ _ c.in_ok-left-in-Some.left c.in-Some.is c.in_ok-report_entry.ensures
    c.in_ok-left-in-Some.ensures
