use Rattle.access_log.proofs.Added.{then_adds}
use Rattle.access_log.proofs.events.write_reply.Goals as goal

pub returns : goal.returns
returns c =
    then_adds (then_adds (then_adds (then_adds (then_adds (then_adds c.in_ok-write_count.ensures
    c.in_ok-write_optional.ensures) c.in_ok-write_optional-2.ensures)
    c.in_ok-write_count-2.ensures) c.in_ok-write_number.ensures) c.in_ok-write_number-2.ensures)
    c.in_ok-write_number-3.ensures
