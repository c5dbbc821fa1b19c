use Rattle.world.proofs.Held.{safe_on_the_way, some_world}
use Rattle.world.proofs.Opening.{inside_of}
use Rattle.world.proofs.Released.{of_its_run}
use Rattle.world.proofs.Runs.{Laws}
use Rattle.world.proofs.world.World.invariant_law.Goals as goal

pub returns-clause-represents : goal.returns-clause-represents
returns-clause-represents c =
    rw (← c.self.view_is) (some_world (inside_of c.self.inside) c.self.invariant)

pub returns-clause-sound : goal.returns-clause-sound
returns-clause-sound c = rw (← c.self.view_is) c.self.invariant.sound

pub returns-clause-safe : goal.returns-clause-safe
returns-clause-safe c =
    let law : Laws = record { counts = c.counts_instructions.ensures; fit = c.events_fit.ensures }
    in
    rw (← c.self.view_is)
    (λ events u way. safe_on_the_way law (inside_of c.self.inside) events u c.invariant_law.ensures
    c.self.invariant way)

pub returns-clause-releases : goal.returns-clause-releases
returns-clause-releases c =
    let law : Laws = record { counts = c.counts_instructions.ensures; fit = c.events_fit.ensures }
    in
    rw (← c.self.view_is)
    (λ events u v e r way happens. of_its_run u v e r
    (safe_on_the_way law (inside_of c.self.inside) events u c.invariant_law.ensures c.self.invariant
    way) happens)
