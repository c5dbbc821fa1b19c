use Rattle.std.proofs.Common.{arith, rules}
use Rattle.diff_space.specs.Plans.{IsStatementOf}
use Rattle.diff_space.specs.Scopes.{IsWithin, scope_of}
use Rattle.diff_space.proofs.Planned.{ends_on, steps_on}
use Rattle.diff_space.proofs.plan.plan_of.Goals as goal

pub loop-left-preserved : goal.loop-left-preserved
loop-left-preserved c =
    steps_on
    (IsStatementOf (IsWithin (scope_of c.args.bounds.now)) c.args.dimensions.now
    c.args.rule.now.shape.now c.args.rule.now.contents.now)
    c.args.rule.now.statements.now c.loop-left.left.now c.statement-item.result
    c.loop-left.planned.items c.push.new.self.items _ (omega arith) c.statement-item.is
    c.loop-left.invariant (search rules) c.in_ok-push.ensures.items

pub returns : goal.returns
returns c =
    ends_on
    (IsStatementOf (IsWithin (scope_of c.args.bounds.now)) c.args.dimensions.now
    c.args.rule.now.shape.now c.args.rule.now.contents.now)
    c.args.rule.now.statements.now c.loop-left.left.now c.loop-left.planned.items (omega arith)
    c.loop-left.invariant
