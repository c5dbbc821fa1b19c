use Rattle.std.proofs.Common.{◌∙◌, ap}
use Rattle.why_choice.specs.Parts.{given_back}
use Rattle.why_choice.proofs.Back.{last_goes_first}
use Rattle.why_choice.proofs.part.give_back.Goals as goal

pub loop-one-preserved : goal.loop-one-preserved
loop-one-preserved c =
    ap (given_back c.pop.new.self.items) c.give_back.ensures
    ∙ last_goes_first c.pop.new.self.items c.in-Some.one c.loop-one.left.items
    c.loop-one.counters c.in-Some.ensures.items
    ∙ c.loop-one.invariant
