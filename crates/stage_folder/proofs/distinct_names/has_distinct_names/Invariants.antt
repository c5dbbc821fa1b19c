use Rattle.std.proofs.Common.{◌≡◌, length}
use Rattle.stage_folder.specs.Steps as specs
use Rattle.stage_folder.proofs.distinct_names.has_distinct_names.Given as goal

-- what is left decides
abbrev pub invariant-loop-left : goal.invariant-loop-left
invariant-loop-left l = specs.has_distinct_names l.left ≡ specs.has_distinct_names l.files

abbrev pub decreases-loop-left : goal.decreases-loop-left
decreases-loop-left l = length l.left
