use Rattle.dry_run.proofs.Sending.{refuses_alike}
use Rattle.dry_run.proofs.laws.refuses_alike.Goals as goal

pub returns : goal.returns
returns c = λ watcher moment body events reply fault e r.
    refuses_alike watcher moment body fault e r
