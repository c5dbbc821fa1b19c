use Rattle.why_choice.proofs.InQuotes.{quotes_end_texts}
use Rattle.why_choice.proofs.laws.quotes_end_texts.Goals as goal

pub returns : goal.returns
returns c = quotes_end_texts
