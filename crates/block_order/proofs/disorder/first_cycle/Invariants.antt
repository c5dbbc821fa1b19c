use Rattle.std.proofs.Common.{ℕ, ◌<◌}
use Rattle.flow_check.specs.Sweep.{IsMarked}
use Rattle.block_order.specs.Refusal.{ClosesCycle}
use Rattle.block_order.proofs.disorder.first_cycle.Given as goal

abbrev pub invariant-loop-slot : goal.invariant-loop-slot
invariant-loop-slot l = (s : ℕ) → s < l.slot → IsMarked l.reached s → ¬ ClosesCycle l.code s
