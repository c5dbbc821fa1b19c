use Rattle.std.proofs.Common.{◌≡◌, ◌++◌, replicate}
use Rattle.rule_lang.specs.declared.condition.Step.TheVariants.{Not}
use Rattle.rule_lang.proofs.pending.push_nots.Given as goal

abbrev pub invariant-loop : goal.invariant-loop
invariant-loop l = l.steps.items ≡ l.fn.steps.items ++ replicate l.counter Not
