use Rattle.std.proofs.Common.{inr}
use Rattle.stage_commands.proofs.changes.change_and_load.Goals as goal

pub returns-clause-stopped : goal.returns-clause-stopped
returns-clause-stopped g c = inr (c.in-Ok.ensures, c.in-Err-change_files.ensures.stopped)
