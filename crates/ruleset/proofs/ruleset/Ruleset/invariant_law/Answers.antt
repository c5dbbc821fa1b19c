use Rattle.ruleset.proofs.Listed.{one_known}
use Rattle.ruleset.proofs.ruleset.Ruleset.invariant_law.Goals as goal

pub returns-clause-sound : goal.returns-clause-sound
returns-clause-sound c = rw (← c.self.view_is)
    (record { one = one_known _ c.self.invariant.once; each = c.self.invariant.each })
