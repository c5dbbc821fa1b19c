use Rattle.world.proofs.Swaps.{rulesets_preserved}
use Rattle.world.proofs.laws.rulesets_preserved.Goals as goal

pub returns : goal.returns
returns c = rulesets_preserved
