use Rattle.std.proofs.Common.{◌≡◌, length}
use Rattle.folder_facts.specs.Offered as specs
use Rattle.folder_facts.proofs.quotas.array_named.Given as goal

-- what is left decides
abbrev pub invariant-loop-left : goal.invariant-loop-left
invariant-loop-left l = specs.array_named l.left l.name ≡ specs.array_named l.arrays l.name

abbrev pub decreases-loop-left : goal.decreases-loop-left
decreases-loop-left l = length l.left
