use Rattle.std.proofs.Common.{None, arith, sym, ◌∙◌}
use Rattle.std.proofs.lemmas.Bool.{and_parts}
use Rattle.warnings.specs.Evaluation.{rule_of}
use Rattle.warnings.proofs.Buckets.{begins}
use Rattle.warnings.proofs.Crowds.{all_buckets_marked, next_bucket, no_bucket, no_more_buckets}
use Rattle.warnings.proofs.marks.mark_buckets.Goals as goal

pub loop-bucket-init : goal.loop-bucket-init
loop-bucket-init c =
    no_bucket (rule_of c.args.evaluated.now) c.args.reached.now c.args.ends.now c.args.spot
    c.in-Ok.attrs (begins c.args.evaluated.now.appid.now None c.in-Ok.attrs c.in-Ok.ensures)
    c.requires.reached c.requires.ends

pub mark_way-requires-clause-reached : goal.mark_way-requires-clause-reached
mark_way-requires-clause-reached c = c.loop-bucket.invariant.reached_length

pub mark_way-requires-clause-ends : goal.mark_way-requires-clause-ends
mark_way-requires-clause-ends c = c.loop-bucket.invariant.ends_length

pub loop-bucket-preserved : goal.loop-bucket-preserved
loop-bucket-preserved c =
    next_bucket (rule_of c.args.evaluated.now) c.args.reached.now c.args.ends.now c.args.spot
    c.loop-bucket.attrs c.in_bucket-attrs.result c.loop-bucket.bucket _ _ _ _
    c.loop-bucket.invariant c.loop-bucket-test.true
    (rw c.new-place.ensures at c.in_bucket-attrs.ensures)
    c.mark_way.auto.reached c.mark_way.auto.ends c.in_ok-mark_way.ensures

pub returns-then-are_settled : goal.returns-then-are_settled
returns-then-are_settled c =
    let all = and_parts _ _ (sym c.are_settled.ensures ∙ c.if-are_settled.true) in
    no_more_buckets (rule_of c.args.evaluated.now) c.args.reached.now c.args.ends.now c.args.spot
    c.loop-bucket.attrs c.loop-bucket.bucket _ _ c.loop-bucket.invariant all.1 all.0

pub returns : goal.returns
returns c =
    all_buckets_marked (rule_of c.args.evaluated.now) c.args.reached.now c.args.ends.now c.args.spot
    c.loop-bucket.attrs c.loop-bucket.bucket _ _ c.loop-bucket.invariant (omega arith)
