use Rattle.server_counters.proofs.Zeros.{zeros_are_cells}
use Rattle.server_counters.proofs.counters.Counters.none.Goals as goal

pub returns-clause-cells : goal.returns-clause-cells
returns-clause-cells c = zeros_are_cells c.in_ok-values.values.items c.in_ok-values.ensures
