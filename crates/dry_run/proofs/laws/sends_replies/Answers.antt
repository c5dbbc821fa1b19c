use Rattle.dry_run.proofs.Sending.{sends_replies}
use Rattle.dry_run.proofs.laws.sends_replies.Goals as goal

pub returns : goal.returns
returns c = λ watcher generation rules moment body events text latest.
    sends_replies watcher generation rules moment latest body events text
