use Rattle.std.proofs.Common.{◌≡◌, replicate}
use Rattle.world.specs.declared.event.Event.TheVariants.{Step}
use Rattle.replay.proofs.played.steps_of.Given as goal

abbrev pub invariant-loop : goal.invariant-loop
invariant-loop l = l.steps.items ≡ replicate l.counter (Step l.worker)
