use Rattle.std.proofs.Common.{subst, sym}
use Rattle.manifest.specs.declared.app.ProgramSource.{ProgramSource}
use Rattle.stage_rules.specs.Halts.{Halts}
use Rattle.stage_rules.proofs.halting.halting_file.Goals as goal

pub returns-in-Rule-clause-halts : goal.returns-in-Rule-clause-halts
returns-in-Rule-clause-halts c =
    subst (λ (s : ProgramSource). Halts s c.halted_rule.result.now) (sym c.in-Rule.is)
    (c.halted_rule.ensures.halts _)

pub returns-in-Program-clause-halts : goal.returns-in-Program-clause-halts
returns-in-Program-clause-halts c =
    subst (λ (s : ProgramSource). Halts s c.halted_program.result.now) (sym c.in-Program.is)
    (c.halted_program.ensures.halts _)
