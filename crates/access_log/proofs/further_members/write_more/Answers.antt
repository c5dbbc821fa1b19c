use Rattle.access_log.proofs.Added.{then_adds}
use Rattle.access_log.proofs.further_members.write_more.Goals as goal

pub returns : goal.returns
returns c =
    then_adds (then_adds (then_adds (then_adds (then_adds
    c.in_ok-write_optional_excerpt.ensures c.in_ok-write_optional_excerpt-2.ensures)
    c.in_ok-write_optional_excerpt-3.ensures) c.in_ok-write_optional_excerpt-4.ensures)
    c.in_ok-write_day.ensures) c.in_ok-write_optional.ensures
