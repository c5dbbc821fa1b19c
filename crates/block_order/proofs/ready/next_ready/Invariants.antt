use Rattle.std.proofs.Common.{◌<◌, length}
use Rattle.std.specs.Prelude.{IfSome}
use Rattle.block_order.proofs.ready.next_ready.Given as goal

abbrev pub invariant-loop-slot : goal.invariant-loop-slot
invariant-loop-slot l = IfSome l.first (λ s. s < length l.places)
