use Rattle.std.proofs.Common.{◌∙◌, ◌+◌, ◌++◌, ℕ, List, ap, string_bytes}
use Rattle.dry_run.proofs.Explaining.{one_more}
use Rattle.dry_run.proofs.why.explain_apps.Goals as goal

pub loop-app-preserved : goal.loop-app-preserved
loop-app-preserved c =
    let so_far = c.loop-app.invariant in
    let pushed =
    c.in-Ok-push_str.ensures.bytes
    ∙ ap (λ (t : List ℕ). string_bytes c.loop-app.text ++ t) c.as_str.ensures.value in (
      ap (λ (n : ℕ). n + 1) so_far.0,
      one_more c.args.manifest.now c.facts-facts.result.now c.args.moment.now c.args.counters.now
          c.apps-apps.result.now c.loop-app.app-index c.app-item.result _ _ _ _ _
          c.loop-app-test.true c.app-item.is so_far.1 c.in-Ok.ensures pushed,
    )
