use Rattle.why_choice.proofs.Truths.{test_sound}
use Rattle.why_choice.proofs.laws.truths_sound.Goals as goal

pub returns : goal.returns
returns c = test_sound
