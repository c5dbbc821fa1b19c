use Rattle.stage_folder.proofs.Undoable.{performed_undoable}
use Rattle.stage_folder.proofs.laws.performed_is_undoable.Goals as goal

pub returns : goal.returns
returns c = performed_undoable
