use Rattle.std.proofs.Common.{◌≡◌, ◌+◌, length}
use Rattle.stage_folder.proofs.Edits.{LooksOn}
use Rattle.stage_folder.proofs.undoing.edited_file.Given as goal

abbrev pub invariant-loop-left : goal.invariant-loop-left
invariant-loop-left g l =
    LooksOn (g.F.StageFolder.files l.folder) l.files l.place l.left
    × (l.place + length l.left ≡ length l.files)

abbrev pub decreases-loop-left : goal.decreases-loop-left
decreases-loop-left g l = length l.left
