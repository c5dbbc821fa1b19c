use Rattle.std.proofs.Common.{take}
use Rattle.stage_folder.specs.Steps.{done}
use Rattle.stage_commands.proofs.Again.{undone_unedited}
use Rattle.stage_commands.proofs.laws.stopped_is_undoable.Goals as goal

pub returns-clause-again : goal.returns-clause-again
returns-clause-again c = undone_unedited

pub returns-clause-performed : goal.returns-clause-performed
returns-clause-performed c = λ files folder count more distinct found.
    undone_unedited files (done (take count files) folder) more distinct
    (c.performed_is_undoable.ensures files folder count distinct found)
