use Rattle.std.proofs.Common.{rules}
use Rattle.world.proofs.Changes.{kept_after, still}
use Rattle.world.proofs.Opening.{inside_of}
use Rattle.world.proofs.Worlds.{finished}
use Rattle.world.proofs.world.World.finish.Goals as goal

pub invariant_of-self : goal.invariant_of-self
invariant_of-self c =
    kept_after (inside_of c.self.inside) c.self.inside.pass c.args.worker c.index_mut.result.now
    c.finish.new.self
    (search rules) c.index_mut.ensures.value c.self.invariant c.finish.ensures.is_sound
    c.finish.ensures.offered

pub returns : goal.returns
returns c = rw (← c.self.view_is) (record {
  happens = (finished (inside_of c.self.inside) c.args.worker c.index_mut.result.now
      c.finish.new.self
      c.finish.result (search rules) c.index_mut.ensures.value c.finish.ensures.finishes);
  same = still (inside_of c.self.inside) c.args.worker c.index_mut.result.now c.finish.new.self
      c.finish.result c.index_mut.ensures.value c.finish.ensures.same;
})
