use Rattle.stage_commands.proofs.Plans.{halt}
use Rattle.stage_commands.proofs.app_halts.file_by.Goals as goal

pub returns : goal.returns
returns g c = λ known collected.
    let found = rw c.deref.ensures.value at c.in_ok-app.ensures.found in
    let alone = rw c.deref.ensures.value at c.in_ok-app.ensures.alone in
    halt known _ _ _ _ c.in_ok-app.app.now _ _ collected found alone c.in_ok-file.ensures
