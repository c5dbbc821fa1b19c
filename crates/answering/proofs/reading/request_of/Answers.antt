use Rattle.std.proofs.Common.{sym}
use Rattle.answering.proofs.Replies.{refused_by}
use Rattle.answering.proofs.reading.request_of.Goals as goal

pub returns-in-Ok : goal.returns-in-Ok
returns-in-Ok g c = sym (c.in-Ok.ensures (λ e. cc))

pub returns-in-Err : goal.returns-in-Err
returns-in-Err g c =
    rw c.of_omaha.ensures
    (λ watcher moment. refused_by _ watcher moment c.in-Err.fault c.in-Err.ensures)
