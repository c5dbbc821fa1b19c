use Rattle.access_log.proofs.Added.{then_adds}
use Rattle.access_log.proofs.app.write_offer.Goals as goal

pub returns : goal.returns
returns c = then_adds c.in_ok-write_number.ensures c.in_ok-write_text.ensures
