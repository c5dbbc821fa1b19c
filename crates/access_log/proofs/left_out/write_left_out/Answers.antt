use Rattle.access_log.proofs.AddedApps.{adds_others}
use Rattle.access_log.proofs.left_out.write_left_out.Goals as goal

pub returns : goal.returns
returns c =
    adds_others c.args.apps.now c.count_outcomes-counts.ensures.offers
    c.count_outcomes-counts.ensures.unknown c.in_ok-write_count.ensures
    c.in_ok-write_count-2.ensures c.in_ok-write_count-3.ensures
