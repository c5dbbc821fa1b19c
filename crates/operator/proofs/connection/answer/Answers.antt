use Rattle.std.proofs.Common.{take, arith, length}
use Rattle.operator.proofs.Lines.{line_request_is}
use Rattle.operator.proofs.connection.answer.Goals as goal

pub returns-clause-answers : goal.returns-clause-answers
returns-clause-answers g c =
    let input = g.R.Read.remaining c.args.reader.now.inner in
    let room = c.read_line.new.room in
    let some = c.of-request.ensures.some in
    let none = c.of-request.ensures.none in
    let line_request = line_request_is input (take c.in-Ok.size room) (length room)
    c.of-request.result
    (omega (arith, c.read_line.auto.room)) c.in-Ok.ensures.line some none in
    let done = c.perform-reply.ensures.performs in record {
      events = done.events;
      grown = done.grown;
      of = record {
        line_request = c.of-request.result;
        line_request_is = line_request;
        performs = done.of;
      };
    }
