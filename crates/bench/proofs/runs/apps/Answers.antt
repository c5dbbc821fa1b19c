use Rattle.bench.proofs.Apps.{apps_added, length_added}
use Rattle.bench.proofs.runs.apps.Goals as goal

pub loop-k-preserved : goal.loop-k-preserved
loop-k-preserved c =
    let app = c.in_ok-app_at.field-0 in
    let more = c.in-Ok.ensures.items in
    record {
      count = length_added c.loop-k.apps.items _ app c.loop-k.k more c.loop-k.invariant.count;
      each = apps_added (λ a. a.value) c.loop-k.apps.items _ app c.loop-k.k more
          c.loop-k.invariant.count c.loop-k.invariant.each c.in_ok-app_at.ensures;
    }
