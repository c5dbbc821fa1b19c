use Rattle.std.proofs.Common.{ap, Err}
use Rattle.operator.proofs.Replied.{refuses}
use Rattle.operator.proofs.client.ask_server.Goals as goal

pub returns-in-Err-clause-fault : goal.returns-in-Err-clause-fault
returns-in-Err-clause-fault g c =
    refuses c.args.request c.in-Err.fault (λ is. c.in-Err.ensures.word.0 (ap Err is))

pub returns-clause-fault : goal.returns-clause-fault
returns-clause-fault g c = c.in-Err-read_reply.ensures.fault c.args.request
