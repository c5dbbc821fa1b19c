use Rattle.warnings.proofs.AllNamed.{all_named}
use Rattle.warnings.proofs.laws.warnings_are_named.Goals as goal

pub returns : goal.returns
returns c = all_named
