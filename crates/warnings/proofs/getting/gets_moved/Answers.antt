use Rattle.std.proofs.Common.{rules, refl}
use Rattle.attrs.specs.Bucket.{named_bucket}
use Rattle.warnings.specs.declared.possible.Clients.TheVariants.{One}
use Rattle.warnings.specs.Evaluation.{gets, rule_of}
use Rattle.warnings.proofs.Buckets.{found, none_below_zero, not_found, still_moved}
use Rattle.warnings.proofs.getting.gets_moved.Goals as goal

pub loop-bucket-init : goal.loop-bucket-init
loop-bucket-init c = record {
  within = search rules;
  client = λ bucket. refl;
  none = none_below_zero _;
}

pub returns-then-branch : goal.returns-then-branch
returns-then-branch c =
    found (gets (rule_of c.args.evaluated.now) c.args.by c.args.version.now One)
    (named_bucket c.args.app.now) c.args.attrs c.loop-bucket.moving c.in_bucket-moving.result
    c.loop-bucket.bucket c.named_or_hashed-place.result c.in_ok-gets.field-0
    c.loop-bucket.invariant.client (rw c.new.ensures at c.named_or_hashed-place.ensures)
    c.in_bucket-moving.ensures c.in_ok-gets.ensures c.loop-bucket-test.true c.if-branch.true

pub loop-bucket-preserved : goal.loop-bucket-preserved
loop-bucket-preserved c = record {
  within = search rules;
  client = still_moved c.args.attrs c.loop-bucket.moving c.in_bucket-moving.result
      c.named_or_hashed-place.result c.loop-bucket.invariant.client c.in_bucket-moving.ensures;
  none = not_found (gets (rule_of c.args.evaluated.now) c.args.by c.args.version.now One)
      (named_bucket c.args.app.now) c.args.attrs c.loop-bucket.moving c.in_bucket-moving.result
      c.loop-bucket.bucket c.named_or_hashed-place.result c.in_ok-gets.field-0
      c.loop-bucket.invariant.client (rw c.new.ensures at c.named_or_hashed-place.ensures)
      c.in_bucket-moving.ensures c.in_ok-gets.ensures c.if-branch.false
      c.loop-bucket.invariant.none;
}
