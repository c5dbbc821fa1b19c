use Rattle.std.proofs.Common.{length}
use Rattle.stage_commands.specs.Puts.{AreFilesSoFar}
use Rattle.stage_commands.proofs.put_files.app_files.Given as goal

-- the files of the apps so far
abbrev pub invariant-loop-left : goal.invariant-loop-left
invariant-loop-left g l =
    AreFilesSoFar (g.F.StageFolder.files l.folder) l.apps l.left l.files.items

abbrev pub decreases-loop-left : goal.decreases-loop-left
decreases-loop-left g l = length l.left
