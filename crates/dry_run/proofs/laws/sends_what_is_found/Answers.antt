use Rattle.dry_run.proofs.Sending.{sends_what_is_found}
use Rattle.dry_run.proofs.laws.sends_what_is_found.Goals as goal

pub returns : goal.returns
returns c = λ watcher generation rules moment body old found left sent new events latest.
    sends_what_is_found watcher generation rules moment latest body old found left sent new events
