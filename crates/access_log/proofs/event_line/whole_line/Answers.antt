use Rattle.access_log.proofs.Added.{adds_line}
use Rattle.access_log.proofs.Harmless.{is_one}
use Rattle.access_log.specs.Line.{members_of}
use Rattle.access_log.proofs.event_line.whole_line.Goals as goal

pub returns-clause-text : goal.returns-clause-text
returns-clause-text c =
    adds_line c.args.header.now (members_of c.args.event.now) c.in_ok-begin_line.ensures.text
    c.in_ok-write_members.ensures c.in_ok-put.ensures

pub returns-clause-whole : goal.returns-clause-whole
returns-clause-whole c =
    is_one c.args.header.now (members_of c.args.event.now) c.in_ok-write_members.ensures.harmless
    (adds_line c.args.header.now (members_of c.args.event.now) c.in_ok-begin_line.ensures.text
    c.in_ok-write_members.ensures c.in_ok-put.ensures)
