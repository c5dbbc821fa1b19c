use Rattle.worked_examples.proofs.AnswersBack.{covers_before}
use Rattle.worked_examples.proofs.looking_back.covers_are_before.Goals as goal

pub returns : goal.returns
returns c = covers_before
