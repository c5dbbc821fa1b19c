use Rattle.std.proofs.Common.{◌∙◌, ap, sym}
use Rattle.std.proofs.lemmas.Result.{IfOk-weaker}
use Rattle.load.specs.JudgedApps.{app_named}
use Rattle.why_log.specs.Explained.{not_requested, unlisted, was_run}
use Rattle.why_log.proofs.Whole.{of_any}
use Rattle.why_log.proofs.explained_apps.explain_app.Goals as goal

pub returns-then-not-app : goal.returns-then-not-app
returns-then-not-app c =
    of_any c.unrequested_lines.result _ (λ text. not_requested c.if-not-app.true)

pub returns-in_default : goal.returns-in_default
returns-in_default c =
    of_any c.unlisted_lines.result _ (λ text.
    unlisted (ap (app_named c.args.manifest.now.apps.items) (sym c.as_str.ensures)
    ∙ sym c.in_default.ensures.found))

pub returns : goal.returns
returns c =
    IfOk-weaker c.run_lines.result _ _
    (λ text is. was_run c.in-Some.known.now c.if-not-app.false
    (ap (app_named c.args.manifest.now.apps.items) (sym c.as_str.ensures)
    ∙ sym c.in-Some.ensures.found) is)
    c.run_lines.ensures
