use Rattle.cells.proofs.Apart.{lie_apart, are_wide}
use Rattle.cells.proofs.laws.arrays_lie_apart.Goals as goal

pub returns-clause-apart : goal.returns-clause-apart
returns-clause-apart c = lie_apart

pub returns-clause-wide : goal.returns-clause-wide
returns-clause-wide c = are_wide
