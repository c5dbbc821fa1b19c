use Rattle.std.proofs.Common.{◌<◌, length, arith, ◌∙◌}
use Rattle.omaha_json.proofs.Added.{then_item}
use Rattle.omaha_json.proofs.Apps.{values_from}
use Rattle.omaha_json.proofs.app.write_apps.Goals as goal

pub loop-i-preserved : goal.loop-i-preserved
loop-i-preserved c =
    let some : c.loop-i.i < length c.args.apps.now = omega arith in
    let each : c.loop-i.i < length c.args.found.now = omega (arith, c.requires) in (
      c.in_ok-write_app.ensures.before ∙ c.loop-i.invariant.0,
      then_item _ _ _ _ _ _ c.in_ok-write_app.ensures.tokens
          (values_from c.args.apps.now c.args.found.now c.loop-i.i
          c.index-apps-i.result c.index-found-i.result some each
          c.index-apps-i.is c.index-found-i.is)
          c.loop-i.invariant.1,
    )
