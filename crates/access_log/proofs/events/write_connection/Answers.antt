use Rattle.access_log.proofs.Added.{then_adds}
use Rattle.access_log.proofs.events.write_connection.Goals as goal

pub returns : goal.returns
returns c =
    then_adds (then_adds (then_adds (then_adds (then_adds (then_adds c.in_ok-write_kind.ensures
    c.in_ok-write_text.ensures) c.in_ok-write_optional.ensures) c.in_ok-write_id.ensures)
    c.in_ok-write_optional-2.ensures) c.in_ok-write_reply.ensures) c.in_ok-write_apps.ensures
