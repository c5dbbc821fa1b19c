use Rattle.std.proofs.Common.{subst, sym}
use Rattle.manifest.specs.declared.app.ProgramSource.TheVariants.{Rule}
use Rattle.stage_rules.specs.Halts.{Halts}
use Rattle.stage_rules.proofs.HaltedRule.{rule_halts}
use Rattle.stage_rules.proofs.halting.halted_rule.Goals as goal

pub returns-clause-halts : goal.returns-clause-halts
returns-clause-halts c = λ file.
    subst (Halts (Rule file)) (sym c.as_bytes.ensures.value) (rule_halts c.one_verdict.ensures file)
