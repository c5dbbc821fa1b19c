use Rattle.why_choice.proofs.Conditions.{when_sound}
use Rattle.why_choice.proofs.laws.whens_decide.Goals as goal

pub returns : goal.returns
returns c = when_sound
