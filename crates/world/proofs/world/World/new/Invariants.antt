use Rattle.std.proofs.Common.{◌≡◌, replicate}
use Rattle.world.specs.declared.seat.Seat.TheVariants.{Empty}
use Rattle.world.proofs.world.World.new.Given as goal

abbrev pub invariant-loop : goal.invariant-loop
invariant-loop l = l.seats.items ≡ replicate l.counter Empty
