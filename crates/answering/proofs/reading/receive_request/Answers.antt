use Rattle.std.proofs.Common.{sym}
use Rattle.answering.specs.Answer.{rejected}
use Rattle.answering.proofs.Replies.{is_received}
use Rattle.answering.proofs.reading.receive_request.Goals as goal

pub returns-in-Ok-clause-received : goal.returns-in-Ok-clause-received
returns-in-Ok-clause-received g c =
    is_received _ c.read_post.new.self c.body.result.now c.in-Ok.ensures.answers c.body.ensures
    c.request_of.result c.request_of.ensures

pub returns-in-Some-clause-received : goal.returns-in-Some-clause-received
returns-in-Some-clause-received g c =
    let status = sym c.in-Some.ensures.status in
    rw c.of_post.ensures
    (λ watcher moment. rejected c.in-Err.fault c.in-Some.status c.in-Err.ensures.answers status)
