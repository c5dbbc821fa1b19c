use Rattle.rule_compile.specs.Writing.{AreWritten}
use Rattle.rule_compile.proofs.statements.put_steps.Given as goal

abbrev pub invariant-loop-k : goal.invariant-loop-k
invariant-loop-k l = AreWritten l.shape l.steps l.label l.fn.rest l.k l.goals l.rest
