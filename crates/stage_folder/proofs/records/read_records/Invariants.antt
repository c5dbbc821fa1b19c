use Rattle.std.proofs.Common.{length}
use Rattle.stage_folder.proofs.Reading.{ReadsOn}
use Rattle.stage_folder.proofs.records.read_records.Given as goal

abbrev pub invariant-loop-left : goal.invariant-loop-left
invariant-loop-left g l =
    ReadsOn (g.F.StageFolder.records l.folder) l.numbers l.steps.items l.unread.items l.left

abbrev pub decreases-loop-left : goal.decreases-loop-left
decreases-loop-left g l = length l.left
