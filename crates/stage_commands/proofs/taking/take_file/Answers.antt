use Rattle.stage_commands.proofs.Left.{changing_files, found_files}
use Rattle.stage_commands.proofs.taking.take_file.Goals as goal

pub take_step-requires-clause-found : goal.take_step-requires-clause-found
take_step-requires-clause-found g c = found_files _ _ _ c.in-Ok.ensures c.requires.found

pub take_step-requires-clause-changes : goal.take_step-requires-clause-changes
take_step-requires-clause-changes g c = changing_files _ _ c.in-Ok.ensures c.requires.changes
