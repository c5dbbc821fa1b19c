use Rattle.ceilings.proofs.Steps.{grows}
use Rattle.ceilings.proofs.laws.ceilings_monotone.Goals as goal

pub returns : goal.returns
returns c = grows
