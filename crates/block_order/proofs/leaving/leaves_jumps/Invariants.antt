use Rattle.block_order.specs.Order.{LeavesJumps}
use Rattle.block_order.proofs.leaving.leaves_jumps.Given as goal

abbrev pub invariant-loop-count : goal.invariant-loop-count
invariant-loop-count l = LeavesJumps l.code l.place → LeavesJumps l.code l.slot
