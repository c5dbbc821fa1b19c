use Rattle.stage_servers.proofs.Unedited.{on_ok}
use Rattle.stage_servers.proofs.edits.stop_if_edited.Goals as goal

pub returns-in-Ok-edited-clause-unedited : goal.returns-in-Ok-edited-clause-unedited
returns-in-Ok-edited-clause-unedited g c = λ compared.
    let unedited = rw c.deref.ensures.value at c.in-Ok-edited.ensures in
    (c.in-Ok.recorded, c.in-Ok.ensures, rw c.is_back.ensures at unedited)

pub returns-in-Err-edited-clause-read : goal.returns-in-Err-edited-clause-read
returns-in-Err-edited-clause-read g c =
    on_ok c.go_on_if.result (λ may reads. (c.in-Ok.recorded, c.in-Ok.ensures))
    c.go_on_if.ensures.continued
