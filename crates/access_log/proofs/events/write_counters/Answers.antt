use Rattle.access_log.proofs.Added.{then_adds}
use Rattle.access_log.proofs.events.write_counters.Goals as goal

pub returns : goal.returns
returns c = then_adds c.in_ok-write_kind.ensures c.in_ok-write_optional.ensures
