use Rattle.reference.proofs.Bytes.{none_set}
use Rattle.reference.proofs.state.unset_marks.Goals as goal

pub returns : goal.returns
returns c k = none_set 512 k
