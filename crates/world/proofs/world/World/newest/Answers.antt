use Rattle.std.proofs.Common.{rules}
use Rattle.world.proofs.Opening.{newest_found}
use Rattle.world.proofs.world.World.newest.Goals as goal

pub returns : goal.returns
returns c = rw (← c.self.view_is, c.deref.ensures)
    (newest_found c.self.inside.rulesets.items c.len.result c.index.result.now
    (search rules) c.self.invariant.ruled c.index.ensures)
