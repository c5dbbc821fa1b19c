use Rattle.cells.proofs.Apart.{named_there, numbered_named, stay}
use Rattle.cells.proofs.laws.arrays_preserved.Goals as goal

pub returns-clause-there : goal.returns-clause-there
returns-clause-there c = named_there

pub returns-clause-numbered : goal.returns-clause-numbered
returns-clause-numbered c = numbered_named

pub returns-clause-stay : goal.returns-clause-stay
returns-clause-stay c = stay
