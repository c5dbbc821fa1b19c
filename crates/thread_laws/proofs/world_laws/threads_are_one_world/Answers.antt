use Rattle.thread_laws.proofs.Threads.{passes_are_one_world}
use Rattle.thread_laws.proofs.world_laws.threads_are_one_world.Goals as goal

pub returns : goal.returns
returns c =
    let laws = c.one_world.ensures in
    passes_are_one_world (record {
      world = laws.world;
      loads = laws.loads;
      others = laws.others;
      nothing = laws.nothing;
      passes = laws.passes;
    })
