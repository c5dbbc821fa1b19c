use Rattle.worked_examples.proofs.EntriesBack.{entries_back}
use Rattle.worked_examples.proofs.looking_back.entries_look_back.Goals as goal

pub returns : goal.returns
returns c = entries_back
