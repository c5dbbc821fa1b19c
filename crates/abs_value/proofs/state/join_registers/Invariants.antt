use Rattle.std.proofs.Common.{◌≡◌, ℕ, ◌<◌, ◌≤◌, length}
use Rattle.abs_value.specs.Values.{join_values}
use Rattle.abs_value.specs.States.{register_at}
use Rattle.abs_value.proofs.state.join_registers.Given as goal

-- the registers below r are joined, the others unchanged
abbrev pub invariant-loop-r : goal.invariant-loop-r
invariant-loop-r l = record {
  all : length l.registers ≡ 11;
  joined : (k : ℕ) → k < l.r → register_at l.registers k
      ≡ join_values (register_at l.fn.registers k) (register_at l.other k);
  rest : (k : ℕ) → l.r ≤ k → register_at l.registers k ≡ register_at l.fn.registers k;
}
