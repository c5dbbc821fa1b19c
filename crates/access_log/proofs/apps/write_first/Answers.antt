use Rattle.access_log.proofs.AddedApps.{adds_first}
use Rattle.access_log.proofs.apps.write_first.Goals as goal

pub returns : goal.returns
returns c =
    adds_first c.args.listed c.args.apps.now c.split_at.ensures.front
    c.split_at.ensures.back c.in_ok-more_left_out.ensures.more c.in_ok-more_left_out.ensures.text
    c.in_ok-write_count.ensures c.in_ok-write_left_out.ensures
