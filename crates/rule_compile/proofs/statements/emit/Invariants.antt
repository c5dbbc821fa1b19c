use Rattle.rule_compile.specs.Writing.{IsWrittenFrom}
use Rattle.rule_compile.proofs.statements.emit.Given as goal

abbrev pub invariant-loop-k : goal.invariant-loop-k
invariant-loop-k l = IsWrittenFrom l.shape l.statements l.k l.goals l.rest
