use Rattle.access_log.proofs.Added.{then_adds}
use Rattle.access_log.proofs.events.write_statuses.Goals as goal

pub returns : goal.returns
returns c =
    then_adds (then_adds (then_adds (then_adds (then_adds (then_adds (then_adds (then_adds
    c.in_ok-write_number.ensures c.in_ok-write_number-2.ensures)
    c.in_ok-write_number-3.ensures) c.in_ok-write_number-4.ensures)
    c.in_ok-write_number-5.ensures) c.in_ok-write_number-6.ensures)
    c.in_ok-write_number-7.ensures) c.in_ok-write_number-8.ensures)
    c.in_ok-write_count.ensures
