use Rattle.access_log.proofs.Added.{then_adds, measured}
use Rattle.access_log.proofs.AddedApps.{adds_end}
use Rattle.access_log.proofs.app.brief_size.Goals as goal

pub returns-clause-size : goal.returns-clause-size
returns-clause-size c =
    measured c.len-before.ensures
    (then_adds (then_adds c.in_ok-write_members.ensures c.in_ok-write_no_details.ensures)
    (adds_end c.in_ok-put.ensures)) c.added_since-size.ensures
