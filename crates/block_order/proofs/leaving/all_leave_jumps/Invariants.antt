use Rattle.std.proofs.Common.{◌≡◌, ℕ, ◌<◌, Some}
use Rattle.block_order.specs.Order.{place_at, LeavesJumps}
use Rattle.block_order.proofs.leaving.all_leave_jumps.Given as goal

abbrev pub invariant-loop-slot : goal.invariant-loop-slot
invariant-loop-slot l =
    (s : ℕ) → s < l.slot → (t : ℕ) → place_at l.places s ≡ Some t → LeavesJumps l.code s
