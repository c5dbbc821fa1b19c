use Rattle.std.proofs.Common.{◌++◌, length}
use Rattle.stage_servers.specs.Earlier.{AreNamedAs, files_as}
use Rattle.stage_servers.proofs.earlier_files.add_files.Given as goal

-- the files so far and those that are left make the same as at first
abbrev pub invariant-loop-left : goal.invariant-loop-left
invariant-loop-left l =
    AreNamedAs (l.files.items ++ files_as l.is_after l.left)
    (l.fn.files.items ++ files_as l.is_after l.added)

abbrev pub decreases-loop-left : goal.decreases-loop-left
decreases-loop-left l = length l.left
