use Rattle.access_log.proofs.Added.{then_adds}
use Rattle.access_log.proofs.app.write_details.Goals as goal

pub returns-clause-text : goal.returns-clause-text
returns-clause-text c =
    then_adds c.in_ok-write_more.ensures c.in_ok-write_event.ensures
