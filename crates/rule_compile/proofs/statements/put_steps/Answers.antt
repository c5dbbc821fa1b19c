use Rattle.std.proofs.Common.{arith}
use Rattle.std.proofs.lemmas.Grind.{common_steps}
use Rattle.rule_compile.proofs.Steps.{goal_left, step_written, step_long, step_costs}
use Rattle.rule_compile.proofs.statements.put_steps.Goals as goal

pub put_step-requires-clause-some : goal.put_step-requires-clause-some
put_step-requires-clause-some c =
    goal_left c.args.shape.now c.args.steps.now c.args.label c.args.rest.now c.loop-k.k
    c.index-steps-k.result c.loop-k.goals c.loop-k.rest c.loop-k-test.true c.loop-k.auto.k
    c.index-steps-k.is c.loop-k.invariant

pub loop-k-preserved : goal.loop-k-preserved
loop-k-preserved c =
    step_written c.args.shape.now c.args.steps.now c.args.label c.args.rest.now c.loop-k.k
    c.index-steps-k.result c.loop-k.goals c.loop-k.rest c.loop-k-test.true c.loop-k.auto.k
    c.index-steps-k.is c.loop-k.invariant
    c.put_step.new.goals c.put_step.new.rest c.in_ok-put_step.ensures.goals
    c.in_ok-put_step.ensures.code c.put_step.ensures.range

pub returns-in_err-put_step-clause-long : goal.returns-in_err-put_step-clause-long
returns-in_err-put_step-clause-long c =
    let law = step_long c.args.shape.now c.args.steps.now c.args.label c.args.rest.now c.loop-k.k
    c.index-steps-k.result c.loop-k.goals c.loop-k.rest c.loop-k-test.true c.loop-k.auto.k
    c.index-steps-k.is c.loop-k.invariant in
    grind (arith, common_steps, law, c.in_err-put_step.ensures.long)

pub returns-in_err-put_step-clause-costs : goal.returns-in_err-put_step-clause-costs
returns-in_err-put_step-clause-costs c =
    let law = step_costs c.args.shape.now c.args.steps.now c.args.label c.args.rest.now c.loop-k.k
    c.index-steps-k.result c.loop-k.goals c.loop-k.rest c.loop-k-test.true c.loop-k.auto.k
    c.index-steps-k.is c.loop-k.invariant c.put_step.ensures.range in
    grind (arith, common_steps, law, c.in_err-put_step.ensures.long)
