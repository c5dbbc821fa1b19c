use Rattle.why_choice.proofs.Meant.{ending_is_meant}
use Rattle.why_choice.proofs.laws.endings_are_meant.Goals as goal

pub returns : goal.returns
returns c = ending_is_meant
