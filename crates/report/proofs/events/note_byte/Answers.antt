use Rattle.report.specs.Objects.{json_place}
use Rattle.report.proofs.Loops.{byte_noted}
use Rattle.report.proofs.events.note_byte.Goals as goal

pub returns : goal.returns
returns c =
    byte_noted c.args.question c.args.app.now c.args.appid.now c.args.byte
    c.in_ok-closes.closes c.object.result.now (json_place c.args.reader.now)
    (json_place c.read.new.self) c.args.tally.now c.note_closed.new.tally
    c.in_ok-closes.ensures.place c.in_ok-closes.ensures.closes c.object.ensures
    c.in_ok-note_closed.ensures
