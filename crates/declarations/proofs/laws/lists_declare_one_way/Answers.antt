use Rattle.declarations.proofs.Outcomes.{one_way}
use Rattle.declarations.proofs.laws.lists_declare_one_way.Goals as goal

pub returns : goal.returns
returns c = λ old ds apart.
    one_way c.declares_one_way.ensures.one_way c.declares_one_way.ensures.names old ds apart
