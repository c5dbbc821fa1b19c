use Rattle.stage_commands.proofs.Plans.{raise}
use Rattle.stage_commands.proofs.raises.file_by.Goals as goal

pub returns : goal.returns
returns g c = λ known collected.
    let found = rw c.deref.ensures.value at c.in_ok-app.ensures.found in
    let alone = rw c.deref.ensures.value at c.in_ok-app.ensures.alone in
    raise known _ _ _ _ _ c.in_ok-app.app.now _ _ collected found alone c.in_ok-file.ensures
