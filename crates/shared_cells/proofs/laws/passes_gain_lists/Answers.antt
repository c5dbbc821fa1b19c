use Rattle.shared_cells.proofs.Gaining.{gained_lists}
use Rattle.shared_cells.proofs.laws.passes_gain_lists.Goals as goal

pub returns : goal.returns
returns c = gained_lists
