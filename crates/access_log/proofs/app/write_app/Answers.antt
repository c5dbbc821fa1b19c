use Rattle.access_log.proofs.Added.{then_adds}
use Rattle.access_log.proofs.AddedApps.{adds_end}
use Rattle.access_log.proofs.app.write_app.Goals as goal

pub returns-clause-text : goal.returns-clause-text
returns-clause-text c =
    then_adds (then_adds c.in_ok-write_members.ensures c.in_ok-left.ensures.text)
    (adds_end c.in_ok-put.ensures)
