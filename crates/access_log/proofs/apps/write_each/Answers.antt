use Rattle.std.proofs.Common.{◌<◌, length, arith}
use Rattle.access_log.proofs.AddedApps.{one_more, no_more}
use Rattle.access_log.proofs.AppsFrom.{nobody, more_from, no_more_from}
use Rattle.access_log.proofs.apps.write_each.Goals as goal

pub loop-app-init : goal.loop-app-init
loop-app-init c = (λ e new adds. adds, omega arith, omega arith)

pub loop-app-preserved : goal.loop-app-preserved
loop-app-preserved c =
    let i = c.loop-app.app-index in
    let below : i < length c.args.apps.now = c.loop-app-test.true in
    let left = c.in_ok-left.ensures in
    let step = more_from c.args.apps.now i c.loop-app.room nobody below in (
      one_more c.args.room c.loop-app.room c.args.apps.now i nobody below left.room left.text
          c.loop-app.invariant.0,
      rw left.room (omega (arith, step, c.loop-app.invariant.1, left.more)),
      omega (arith, c.loop-app.invariant.1, left.bound),
    )

pub returns-clause-text : goal.returns-clause-text
returns-clause-text c =
    no_more c.args.room c.loop-app.room c.args.apps.now c.loop-app.app-index (omega arith)
    c.loop-app.invariant.0

pub returns-clause-more : goal.returns-clause-more
returns-clause-more c =
    let none = no_more_from c.args.apps.now c.loop-app.app-index c.loop-app.room (omega arith) in
    omega (arith, none, c.loop-app.invariant.1)
