use Rattle.std.proofs.Common.{◌≡◌, length}
use Rattle.stage_commands.specs.Counters as specs
use Rattle.stage_commands.proofs.counters.value_among.Given as goal

-- what is left decides
abbrev pub invariant-loop-left : goal.invariant-loop-left
invariant-loop-left l = specs.value_among l.cell l.left ≡ specs.value_among l.cell l.others

abbrev pub decreases-loop-left : goal.decreases-loop-left
decreases-loop-left l = length l.left
