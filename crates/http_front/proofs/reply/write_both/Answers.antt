use Rattle.std.proofs.Common.{refl}
use Rattle.http_front.proofs.Steps.{appends_past}
use Rattle.http_front.proofs.reply.write_both.Goals as goal

pub returns-in-Err-clause-bytes : goal.returns-in-Err-clause-bytes
returns-in-Err-clause-bytes g c =
    let rest = c.in-Err.ensures.bytes in
    let contents = g.W.Write.contents in
    let head = c.args.head.now in
    appends_past (contents c.args.writer.now.inner) (contents c.write_whole.new.self.inner)
    (contents c.write_whole-2.new.self.inner) head head c.args.body.now
    c.in-Err.fault.written refl rest.0 c.in_ok-write_whole.ensures.bytes rest.1
