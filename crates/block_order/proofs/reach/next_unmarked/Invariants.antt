use Rattle.std.proofs.Common.{ℕ, ◌<◌}
use Rattle.block_order.proofs.Places.{LeadsWithin}
use Rattle.block_order.proofs.reach.next_unmarked.Given as goal

abbrev pub invariant-loop-slot : goal.invariant-loop-slot
invariant-loop-slot l = (s : ℕ) → s < l.slot → LeadsWithin l.code l.marks s
