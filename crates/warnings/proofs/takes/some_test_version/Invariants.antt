use Rattle.std.proofs.Common.{◌≡◌, length}
use Rattle.std.specs.List.{list_any}
use Rattle.warnings.specs.RuleWarnings.{tests_version}
use Rattle.warnings.proofs.takes.some_test_version.Given as goal

-- the remaining steps decide
abbrev pub invariant-loop-left : goal.invariant-loop-left
invariant-loop-left l = list_any tests_version l.left ≡ list_any tests_version l.steps

abbrev pub decreases-loop-left : goal.decreases-loop-left
decreases-loop-left l = length l.left
