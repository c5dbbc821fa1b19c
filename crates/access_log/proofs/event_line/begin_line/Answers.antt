use Rattle.access_log.proofs.Added.{begun_line}
use Rattle.access_log.proofs.event_line.begin_line.Goals as goal

pub returns-clause-text : goal.returns-clause-text
returns-clause-text c =
    begun_line c.args.time.now c.args.port c.clear.ensures c.in_ok-put.ensures c.text.ensures
    c.in_ok-put-2.ensures c.in_ok-put-3.ensures c.in_ok-write_number.ensures
