use Rattle.std.proofs.Common.{◌-◌}
use Rattle.warnings.specs.Evaluation.{rule_of}
use Rattle.warnings.proofs.Crowds.{AreBucketsMarked}
use Rattle.warnings.proofs.marks.mark_buckets.Given as goal

abbrev pub invariant-loop-bucket : goal.invariant-loop-bucket
invariant-loop-bucket l =
    AreBucketsMarked (rule_of l.evaluated) l.initial.reached l.initial.ends l.spot l.attrs l.bucket
    l.reached l.ends

abbrev pub decreases-loop-bucket : goal.decreases-loop-bucket
decreases-loop-bucket l = 10000 - l.bucket
