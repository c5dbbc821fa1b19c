use Rattle.std.proofs.Common.{arith}
use Rattle.std.proofs.lemmas.Grind.{common_steps}
use Rattle.rule_compile.proofs.Emitting.{end_stands, statement_written}
use Rattle.rule_compile.proofs.Emitting.{statement_long, statement_cost}
use Rattle.rule_compile.proofs.statements.emit.Goals as goal

pub loop-k-preserved : goal.loop-k-preserved
loop-k-preserved c =
    statement_written c.args.shape.now c.args.statements.now c.loop-k.k c.index-statements-k.result
    c.loop-k.goals c.loop-k.rest c.loop-k-test.true c.loop-k.auto.k c.index-statements-k.is
    c.loop-k.invariant
    c.put_statement.new.goals c.put_statement.new.rest c.in_ok-put_statement.ensures.goals
    c.in_ok-put_statement.ensures.code c.in_ok-put_statement.ensures.range
    c.in_ok-put_statement.ensures.made

pub returns-in_err-put_statement-clause-long : goal.returns-in_err-put_statement-clause-long
returns-in_err-put_statement-clause-long c =
    let law = statement_long c.args.shape.now c.args.statements.now c.loop-k.k
    c.index-statements-k.result c.loop-k.goals c.loop-k.rest c.loop-k-test.true c.loop-k.auto.k
    c.index-statements-k.is c.loop-k.invariant in
    grind (arith, common_steps, law, c.in_err-put_statement.ensures.long)

pub put_statement-requires-clause-end : goal.put_statement-requires-clause-end
put_statement-requires-clause-end c =
    end_stands c.args.shape.now c.args.statements.now c.loop-k.k c.loop-k.goals c.loop-k.rest
    c.loop-k.invariant

pub returns-in_err-put_statement-clause-costs : goal.returns-in_err-put_statement-clause-costs
returns-in_err-put_statement-clause-costs c =
    let law = statement_cost c.args.shape.now c.args.statements.now c.loop-k.k
    c.index-statements-k.result c.loop-k.goals c.loop-k.rest c.loop-k-test.true c.loop-k.auto.k
    c.index-statements-k.is c.loop-k.invariant in
    grind (arith, common_steps, law, c.in_err-put_statement.ensures.costs)
