use Rattle.access_log.proofs.Added.{then_adds}
use Rattle.access_log.proofs.events.write_start.Goals as goal

pub returns : goal.returns
returns c =
    then_adds (then_adds (then_adds (then_adds (then_adds (then_adds c.in_ok-write_kind.ensures
    c.in_ok-write_path.ensures) c.in_ok-write_number.ensures) c.in_ok-write_optional.ensures)
    c.in_ok-write_optional-2.ensures) c.in_ok-write_optional-3.ensures)
    c.in_ok-write_optional_excerpt.ensures
