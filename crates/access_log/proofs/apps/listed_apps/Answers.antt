use Rattle.std.proofs.Common.{◌<◌, ◌≤◌, ℕ, length, arith, subst, sym, ◌∙◌}
use Rattle.access_log.proofs.AppsFrom.{nobody, full_at, one_more_at, none_from}
use Rattle.access_log.proofs.apps.listed_apps.Goals as goal

pub returns-then-room-size-clause-listed : goal.returns-then-room-size-clause-listed
returns-then-room-size-clause-listed c =
    let room = c.loop-app.room in
    let below : c.loop-app.app-index < length c.args.apps.now = c.loop-app-test.true in
    let full = subst (λ (s : ℕ). room < s) c.in_ok-size.ensures.size c.if-room-size.true in
    sym (full_at c.args.apps.now c.loop-app.app-index c.loop-app.count room nobody below full)
    ∙ c.loop-app.invariant.1

pub loop-app-preserved : goal.loop-app-preserved
loop-app-preserved c =
    let i = c.loop-app.app-index in
    let apps' = c.args.apps.now in
    let room = c.loop-app.room in
    let below : i < length apps' = c.loop-app-test.true in
    let enough : c.in_ok-size.size ≤ room = omega arith in
    let fits = subst (λ (s : ℕ). s ≤ room) c.in_ok-size.ensures.size enough in
    let more = one_more_at apps' i c.loop-app.count room nobody below fits in (
      omega (arith, c.loop-app.invariant.0),
      rw c.in_ok-size.ensures.size (sym more ∙ c.loop-app.invariant.1),
      c.in_ok-size.ensures.line ∙ c.loop-app.invariant.2,
    )

pub returns-clause-listed : goal.returns-clause-listed
returns-clause-listed c =
    sym (none_from c.args.apps.now c.loop-app.app-index c.loop-app.count c.loop-app.room
    (omega arith))
    ∙ c.loop-app.invariant.1
