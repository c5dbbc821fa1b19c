use Rattle.access_log.proofs.Added.{then_adds}
use Rattle.access_log.proofs.events.write_halt.Goals as goal

pub returns : goal.returns
returns c =
    then_adds (then_adds (then_adds (then_adds c.in_ok-write_kind.ensures
    c.in_ok-write_excerpt.ensures) c.in_ok-write_halt_word.ensures) c.in_ok-write_count.ensures)
    c.in_ok-write_optional.ensures
