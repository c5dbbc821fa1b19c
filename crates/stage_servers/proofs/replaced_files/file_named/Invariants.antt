use Rattle.std.proofs.Common.{◌≡◌, length}
use Rattle.stage_servers.specs.Replaced as specs
use Rattle.stage_servers.proofs.replaced_files.file_named.Given as goal

-- what is left decides
abbrev pub invariant-loop-left : goal.invariant-loop-left
invariant-loop-left l = specs.file_named l.left l.name ≡ specs.file_named l.files l.name

abbrev pub decreases-loop-left : goal.decreases-loop-left
decreases-loop-left l = length l.left
