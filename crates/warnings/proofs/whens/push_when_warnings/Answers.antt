use Rattle.std.proofs.Common.{arith, false, get_or}
use Rattle.warnings.specs.Evaluation.{rule_of}
use Rattle.warnings.proofs.Reported.{all_reported, first_got, first_rest, next_reported, none_left}
use Rattle.warnings.proofs.Reported.{none_reported}
use Rattle.warnings.proofs.whens.push_when_warnings.Goals as goal

pub loop-left-init : goal.loop-left-init
loop-left-init c = λ spots marked.
    rw (c.as_slice-reached.ensures.value, c.as_slice-ends.ensures.value)
    (none_reported c.args.app (rule_of c.args.evaluated.now) spots c.args.warnings.now.items _
    _ marked)

pub loop-left-preserved : goal.loop-left-preserved
loop-left-preserved c = λ spots marked.
    next_reported c.args.app (rule_of c.args.evaluated.now) spots _ c.loop-left.left.now _
    c.statement-item.result c.loop-left.reached.now c.loop-left.ends.now _ _
    (get_or c.loop-left.reached.now 0 false) (get_or c.loop-left.ends.now 0 false) _ _
    (first_rest c.loop-left.left.now c.statement-item.result (omega arith) c.statement-item.is)
    (first_got c.loop-left.reached.now false (omega arith))
    (first_got c.loop-left.ends.now false (omega arith))
    c.in_ok-push_when_warning.ensures (c.loop-left.invariant spots marked)

pub returns : goal.returns
returns c = λ spots marked.
    all_reported c.args.app (rule_of c.args.evaluated.now) spots _ c.loop-left.left.now _ _ _
    (none_left c.loop-left.left.now (omega arith)) (c.loop-left.invariant spots marked)
