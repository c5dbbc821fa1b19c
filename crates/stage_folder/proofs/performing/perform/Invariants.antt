use Rattle.std.proofs.Common.{◌≡◌, ◌+◌, length}
use Rattle.std.specs.Prelude.{option_map}
use Rattle.stage_folder.specs.Folders.{KnownFolder}
use Rattle.stage_folder.specs.Steps.{IsPartlyDone, done}
use Rattle.stage_folder.proofs.performing.perform.Given as goal

-- what is done, or partly done, of the files that are left is so of all
abbrev pub invariant-loop-left : goal.invariant-loop-left
invariant-loop-left g l =
    let old = g.F.StageFolder.files l.fn.folder in
    let now = g.F.StageFolder.files l.folder in
    (option_map (done l.left) now ≡ option_map (done l.files) old)
    × ((new : KnownFolder) → IsPartlyDone l.left now new → IsPartlyDone l.files old new)
    × (g.F.StageFolder.records l.folder ≡ g.F.StageFolder.records l.fn.folder)
    × (l.place + length l.left ≡ length l.files)

abbrev pub decreases-loop-left : goal.decreases-loop-left
decreases-loop-left g l = length l.left
