use Rattle.why_choice.proofs.LastLine.{last_line_chooses}
use Rattle.why_choice.proofs.laws.last_line_chooses.Goals as goal

pub returns : goal.returns
returns c = last_line_chooses
