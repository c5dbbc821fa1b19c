use Rattle.access_log.proofs.Added.{then_adds}
use Rattle.access_log.proofs.member.write_excerpt.Goals as goal

pub returns : goal.returns
returns c = then_adds c.in_ok-write_text.ensures c.in_ok-write_left_out_of.ensures
