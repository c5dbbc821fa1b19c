use Rattle.worked_examples.proofs.EntriesBack.{jumping_back, going_on_back}
use Rattle.worked_examples.proofs.looking_back.edges_look_back.Goals as goal

pub returns : goal.returns
returns c = record { jumping = jumping_back; going_on = going_on_back }
