use Rattle.access_log.proofs.Added.{then_adds}
use Rattle.access_log.proofs.event_line.write_too_long.Goals as goal

pub returns : goal.returns
returns c =
    then_adds c.in_ok-write_kind.ensures c.in_ok-write_number.ensures
