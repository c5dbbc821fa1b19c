use Rattle.diff_rules.proofs.InStates.{runs_are_in_states}
use Rattle.diff_rules.proofs.laws.runs_are_in_states.Goals as goal

pub returns : goal.returns
returns c = runs_are_in_states
