use Rattle.std.proofs.Common.{◌≡◌, length}
use Rattle.stage_rules.specs.InForce as specs
use Rattle.stage_rules.proofs.halt.has_halt.Given as goal

-- what is left decides
abbrev pub invariant-loop-left : goal.invariant-loop-left
invariant-loop-left l =
    specs.is_named (specs.halted_apps l.left) l.appid
    ≡ specs.is_named (specs.halted_apps l.steps) l.appid

abbrev pub decreases-loop-left : goal.decreases-loop-left
decreases-loop-left l = length l.left
