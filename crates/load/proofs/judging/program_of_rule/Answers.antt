use Rattle.std.proofs.Common.{ap, List, Some}
use Rattle.rule_lang.specs.declared.rule.Statement.{Statement}
use Rattle.load.proofs.judging.program_of_rule.Goals as goal

pub returns-in-Ok-clause-program : goal.returns-in-Ok-clause-program
returns-in-Ok-clause-program c = (
  c.in-Ok.ensures.program.program_is,
  ap (λ (rule : List Statement). Some rule) c.in-Ok.ensures.program.rule_is,
)
