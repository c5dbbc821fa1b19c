use Rattle.std.proofs.Common.{ℕ, ◌<◌}
use Rattle.flow_check.specs.Sweep.{IsMarked}
use Rattle.block_order.specs.Refusal.{StaysWithin}
use Rattle.block_order.proofs.disorder.first_stray.Given as goal

abbrev pub invariant-loop-slot : goal.invariant-loop-slot
invariant-loop-slot l = (s : ℕ) → s < l.slot → IsMarked l.reached s → StaysWithin l.code s
