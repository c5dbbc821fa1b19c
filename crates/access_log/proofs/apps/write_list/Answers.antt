use Rattle.access_log.proofs.Added.{then_adds}
use Rattle.access_log.proofs.AddedApps.{adds_open, adds_close}
use Rattle.access_log.proofs.apps.write_list.Goals as goal

pub returns-clause-text : goal.returns-clause-text
returns-clause-text c =
    then_adds (then_adds (adds_open c.in_ok-put.ensures) c.in_ok-more_left_out.ensures.text)
    (adds_close _ c.in_ok-put-2.ensures)
