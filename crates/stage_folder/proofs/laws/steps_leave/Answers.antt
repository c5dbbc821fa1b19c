use Rattle.stage_folder.proofs.Left.{changes_done, left_done}
use Rattle.stage_folder.proofs.laws.steps_leave.Goals as goal

pub returns-clause-left : goal.returns-clause-left
returns-clause-left c = left_done

pub returns-clause-changes : goal.returns-clause-changes
returns-clause-changes c = changes_done
