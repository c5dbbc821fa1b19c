use Rattle.why_choice.proofs.Conditions.{condition_sound}
use Rattle.why_choice.proofs.laws.conditions_sound.Goals as goal

pub returns : goal.returns
returns c = condition_sound
