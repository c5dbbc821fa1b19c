use Rattle.counters_file.proofs.Values.{zeros_are, zeros_fit}
use Rattle.counters_file.proofs.reading.zeros.Goals as goal

pub returns-clause-zeros : goal.returns-clause-zeros
returns-clause-zeros c = zeros_are c.in_ok-values.values.items c.in_ok-values.ensures

pub returns-clause-cells : goal.returns-clause-cells
returns-clause-cells c = zeros_fit c.in_ok-values.values.items c.in_ok-values.ensures
