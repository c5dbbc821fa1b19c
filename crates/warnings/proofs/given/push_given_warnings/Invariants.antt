use Rattle.std.proofs.Common.{◌≡◌, ◌+◌, ◌<◌, ◌++◌, List, length}
use Rattle.warnings.specs.declared.spot.Spot.{Spot}
use Rattle.warnings.specs.RuleWarnings.{evaluated_releases}
use Rattle.warnings.specs.Evaluation.{rule_of, someone}
use Rattle.warnings.specs.Marks.{AreMarked}
use Rattle.warnings.proofs.given.push_given_warnings.Given as goal

abbrev pub invariant-loop-left : goal.invariant-loop-left
invariant-loop-left l = record {
  so_far : (spots : List Spot)
      → AreMarked (rule_of l.evaluated) (someone (rule_of l.evaluated) spots) l.marks.reached.items
      l.marks.ends.items
      → l.warnings.items ++ evaluated_releases l.app l.number (rule_of l.evaluated) spots l.left
      ≡ l.initial.warnings.items
      ++ evaluated_releases l.app 1 (rule_of l.evaluated) spots l.evaluated.releases.now;
  within : l.number + length l.left ≡ 1 + length l.evaluated.releases.now;
  some : 0 < l.number;
}

abbrev pub decreases-loop-left : goal.decreases-loop-left
decreases-loop-left l = length l.left
