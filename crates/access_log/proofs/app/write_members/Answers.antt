use Rattle.access_log.proofs.Added.{then_adds}
use Rattle.access_log.proofs.app.write_members.Goals as goal

pub returns : goal.returns
returns c =
    then_adds (then_adds (then_adds (then_adds (then_adds c.in_ok-write_head.ensures
    c.in_ok-write_left_out_of.ensures) c.in_ok-write_optional_excerpt.ensures)
    c.in_ok-write_number.ensures) c.in_ok-write_flag.ensures) c.in_ok-write_outcome.ensures
