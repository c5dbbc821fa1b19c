use Rattle.std.proofs.Common.{rules}
use Rattle.world.proofs.Changes.{kept_after, unchanged}
use Rattle.world.proofs.Opening.{inside_of}
use Rattle.world.proofs.Worlds.{stepped}
use Rattle.world.proofs.world.World.step.Goals as goal

pub invariant_of-self : goal.invariant_of-self
invariant_of-self c =
    kept_after (inside_of c.self.inside) c.step.new.pass c.args.worker c.index_mut.result.now
    c.step.new.self
    (search rules) c.index_mut.ensures.value c.self.invariant c.step.ensures.is_sound
    c.step.ensures.offered

pub returns : goal.returns
returns c = rw (← c.self.view_is) (record {
  happens = (stepped (inside_of c.self.inside) c.step.new.pass c.args.worker c.index_mut.result.now
      c.step.new.self
      c.step.result (search rules) c.index_mut.ensures.value c.step.ensures.steps);
  same = unchanged (inside_of c.self.inside) c.step.new.pass c.args.worker c.index_mut.result.now
      c.step.new.self
      c.step.result c.index_mut.ensures.value c.step.ensures.untouched c.step.ensures.same;
})
