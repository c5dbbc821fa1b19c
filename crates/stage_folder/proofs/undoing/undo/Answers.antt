use Rattle.std.proofs.Common.{refl}
use Rattle.stage_folder.proofs.Parts.{restored_none}
use Rattle.stage_folder.proofs.undoing.undo.Goals as goal

pub returns-in-Ok-Some-clause-failed : goal.returns-in-Ok-Some-clause-failed
returns-in-Ok-Some-clause-failed g c = restored_none _ _ _ refl

pub returns-in-Err-clause-failed : goal.returns-in-Err-clause-failed
returns-in-Err-clause-failed g c = restored_none _ _ _ refl
