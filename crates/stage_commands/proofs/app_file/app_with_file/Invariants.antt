use Rattle.std.proofs.Common.{◌≡◌, length}
use Rattle.stage_commands.specs.Apps.{shares_file}
use Rattle.stage_commands.proofs.app_file.app_with_file.Given as goal

-- what is left decides
abbrev pub invariant-loop-left : goal.invariant-loop-left
invariant-loop-left g l = shares_file l.left l.app ≡ shares_file l.apps l.app

abbrev pub decreases-loop-left : goal.decreases-loop-left
decreases-loop-left g l = length l.left
