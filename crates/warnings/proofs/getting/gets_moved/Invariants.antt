use Rattle.std.proofs.Common.{◌≤◌, ◌-◌}
use Rattle.attrs.specs.Bucket.{named_bucket}
use Rattle.warnings.specs.declared.possible.Clients.TheVariants.{One}
use Rattle.warnings.specs.Evaluation.{gets, rule_of}
use Rattle.warnings.proofs.Buckets.{IsMoved, IsNowhere}
use Rattle.warnings.proofs.getting.gets_moved.Given as goal

-- no bucket so far, and `moving` is the client in some bucket
abbrev pub invariant-loop-bucket : goal.invariant-loop-bucket
invariant-loop-bucket l = record {
  within : l.bucket ≤ 10000;
  client : IsMoved l.fn.attrs l.moving;
  none : IsNowhere (gets (rule_of l.evaluated) l.by l.version One) (named_bucket l.app) l.fn.attrs
      l.bucket;
}

abbrev pub decreases-loop-bucket : goal.decreases-loop-bucket
decreases-loop-bucket l = 10000 - l.bucket
