use Rattle.std.proofs.Common.{arith}
use Rattle.warnings.specs.Evaluation.{rule_of}
use Rattle.warnings.proofs.Crowds.{all_spots, next_spot, no_spot, rooms}
use Rattle.warnings.proofs.Reported.{first_got, none_left}
use Rattle.warnings.proofs.marks.mark_spots.Goals as goal

pub loop-left-init : goal.loop-left-init
loop-left-init c =
    no_spot (rule_of c.args.evaluated.now) c.args.spots.now c.args.reached.now c.args.ends.now
    c.requires

pub mark_buckets-requires-clause-reached : goal.mark_buckets-requires-clause-reached
mark_buckets-requires-clause-reached c =
    let i = c.loop-left.invariant in (rooms (rule_of c.args.evaluated.now) i.crowd _ _ i.marked).0

pub mark_buckets-requires-clause-ends : goal.mark_buckets-requires-clause-ends
mark_buckets-requires-clause-ends c =
    let i = c.loop-left.invariant in (rooms (rule_of c.args.evaluated.now) i.crowd _ _ i.marked).1

pub loop-left-preserved : goal.loop-left-preserved
loop-left-preserved c =
    next_spot (rule_of c.args.evaluated.now) c.args.spots.now c.loop-left.left.now _
    _ _ _ _ _
    (first_got c.loop-left.left.now _ (omega arith))
    c.loop-left.invariant c.in_ok-mark_buckets.ensures

pub returns : goal.returns
returns c =
    all_spots (rule_of c.args.evaluated.now) c.args.spots.now c.loop-left.left.now _ _
    (none_left c.loop-left.left.now (omega arith)) c.loop-left.invariant
