use Rattle.std.proofs.Common.{◌≡◌, length}
use Rattle.stage_records.specs.Steps as specs
use Rattle.stage_commands.proofs.backs.take_last.Given as goal

-- the last step of those that are left
abbrev pub invariant-loop-step : goal.invariant-loop-step
invariant-loop-step l = specs.last_step l.left.items ≡ specs.last_step l.fn.steps.items

abbrev pub decreases-loop-step : goal.decreases-loop-step
decreases-loop-step l = length l.left.items
