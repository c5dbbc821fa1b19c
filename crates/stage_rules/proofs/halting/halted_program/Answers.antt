use Rattle.stage_rules.proofs.HaltedProgram.{program_halts}
use Rattle.stage_rules.proofs.halting.halted_program.Goals as goal

pub returns-clause-halts : goal.returns-clause-halts
returns-clause-halts c = λ file. program_halts file
