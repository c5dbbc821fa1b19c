use Rattle.std.proofs.Common.{◌<◌, length, arith}
use Rattle.access_log.proofs.AppsFrom.{nobody, offers_from, unknown_from}
use Rattle.access_log.proofs.AppsFrom.{no_offers_from, no_unknown_from}
use Rattle.access_log.proofs.left_out.count_outcomes.Goals as goal

pub loop-app-preserved : goal.loop-app-preserved
loop-app-preserved c =
    let i = c.loop-app.app-index in
    let below : i < length c.args.apps.now = c.loop-app-test.true in
    let offers = offers_from c.args.apps.now i nobody below in
    let unknown = unknown_from c.args.apps.now i nobody below in (
      omega (arith, offers, c.loop-app.invariant.0, c.offers_of-offers.ensures.value),
      omega (arith, unknown, c.loop-app.invariant.1, c.unknown_of-unknown.ensures.value),
      omega (arith, c.loop-app.invariant.2, c.offers_of-offers.ensures.bound),
      omega (arith, c.loop-app.invariant.3, c.unknown_of-unknown.ensures.bound),
    )

pub returns-clause-offers : goal.returns-clause-offers
returns-clause-offers c =
    let none = no_offers_from c.args.apps.now c.loop-app.app-index (omega arith) in
    omega (arith, none, c.loop-app.invariant.0)

pub returns-clause-unknown : goal.returns-clause-unknown
returns-clause-unknown c =
    let none = no_unknown_from c.args.apps.now c.loop-app.app-index (omega arith) in
    omega (arith, none, c.loop-app.invariant.1)
