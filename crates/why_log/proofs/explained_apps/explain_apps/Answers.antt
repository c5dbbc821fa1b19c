use Rattle.std.proofs.Common.{◌∙◌, ◌++◌, ℕ, List, ap, arith, string_bytes}
use Rattle.why_log.proofs.Apps.{app_more, apps_done, first_rest, none_left}
use Rattle.why_log.proofs.explained_apps.explain_apps.Goals as goal

pub loop-left-preserved : goal.loop-left-preserved
loop-left-preserved c =
    let pushed =
    c.in-Ok-push_str.ensures.bytes
    ∙ ap (λ (t : List ℕ). string_bytes c.loop-left.text ++ t) c.as_str.ensures.value in
    app_more c.args.manifest.now c.args.moment.now c.args.apps.now c.loop-left.left.now
    c.args.counters.now c.loop-left.counters (string_bytes c.loop-left.text)
    c.loop-left.invariant c.app-item.result _ _ _ _
    (first_rest c.loop-left.left.now c.app-item.result (omega arith) c.app-item.is)
    c.in-Ok.ensures pushed

pub returns : goal.returns
returns c =
    apps_done c.args.manifest.now c.args.moment.now c.args.apps.now c.loop-left.left.now
    c.args.counters.now c.loop-left.counters (string_bytes c.loop-left.text)
    c.loop-left.invariant (none_left c.loop-left.left.now (omega arith))
