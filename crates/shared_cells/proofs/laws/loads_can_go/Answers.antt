use Rattle.shared_cells.proofs.Loads.{loads_go, others_kept}
use Rattle.shared_cells.proofs.laws.loads_can_go.Goals as goal

pub returns-clause-legal : goal.returns-clause-legal
returns-clause-legal c = loads_go

pub returns-clause-others : goal.returns-clause-others
returns-clause-others c = others_kept
