use Rattle.std.proofs.Common.{◌++◌, flat_map, length, false}
use Rattle.stage_servers.specs.Earlier.{AreNamedAs, files_if_done}
use Rattle.stage_servers.proofs.earlier_files.add_found.Given as goal

-- the files so far and those of the steps that are left make the same as at first
abbrev pub invariant-loop-left : goal.invariant-loop-left
invariant-loop-left l =
    AreNamedAs (l.files.items ++ flat_map (files_if_done false) l.left)
    (l.fn.files.items ++ flat_map (files_if_done false) l.steps)

abbrev pub decreases-loop-left : goal.decreases-loop-left
decreases-loop-left l = length l.left
