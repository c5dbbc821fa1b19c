use Rattle.std.proofs.Common.{◌≡◌, ℕ, ◌<◌, ◌≤◌, length}
use Rattle.abs_value.specs.Stack.{slot_at, join_slots}
use Rattle.abs_value.proofs.stack.join_from.Given as goal

-- the slots below i are joined, the others unchanged
abbrev pub invariant-loop-i : goal.invariant-loop-i
invariant-loop-i l = record {
  all : length l.stack ≡ 64;
  joined : (k : ℕ) → k < l.i
      → slot_at l.stack k ≡ join_slots (slot_at l.fn.stack k) (slot_at l.other k);
  rest : (k : ℕ) → l.i ≤ k → slot_at l.stack k ≡ slot_at l.fn.stack k;
}
