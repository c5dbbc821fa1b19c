use Rattle.std.proofs.Common.{◌≡◌, length}
use Rattle.block_order.proofs.plan.planned.Given as goal

abbrev pub invariant-loop-count : goal.invariant-loop-count
invariant-loop-count l = length l.plan.places.items ≡ length l.code
