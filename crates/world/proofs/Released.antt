-- The result of a Finish is of its worker's run.
use Rattle.std.proofs.Common.{Ok, Err}
use Rattle.world.specs.World.{WorldState}
use Rattle.world.specs.Happens.{Answer, Happens}
use Rattle.world.specs.Safe.{IsSafeWorld, IsOfItsRun}
use Rattle.world.specs.declared.event.Event.{Event}
use Rattle.world.specs.declared.event.Event.TheVariants.{Start, Step, Finish, Swap}
use Rattle.world.specs.declared.event.Effect.TheVariants as effect

pub of_its_run : (u v : WorldState) (e : Event) (r : Answer) → IsSafeWorld u → Happens u e r v
    → IsOfItsRun u e r
of_its_run u v (Finish k) (Ok (effect.Finished choice instructions number)) safe h =
    record {
      program = h.program;
      attributes = h.attributes;
      ended = h.ended;
      safe = safe.ended k
          number h.program h.attributes choice instructions h.ended;
    }
of_its_run u v (Finish k) (Ok effect.Started) safe h = tt
of_its_run u v (Finish k) (Ok effect.Stepped) safe h = tt
of_its_run u v (Finish k) (Ok (effect.Ended choice)) safe h = tt
of_its_run u v (Finish k) (Ok (effect.Swapped number)) safe h = tt
of_its_run u v (Finish k) (Err f) safe h = tt
of_its_run u v (Start k attrs) r safe h = tt
of_its_run u v (Step k) r safe h = tt
of_its_run u v (Swap rules) r safe h = tt
