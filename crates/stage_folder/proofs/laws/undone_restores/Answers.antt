use Rattle.stage_folder.proofs.Restored.{undone_any, undone_done}
use Rattle.stage_folder.proofs.laws.undone_restores.Goals as goal

pub returns-clause-performed : goal.returns-clause-performed
returns-clause-performed c = undone_done

pub returns-clause-any : goal.returns-clause-any
returns-clause-any c = undone_any
