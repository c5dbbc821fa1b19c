use Rattle.std.proofs.Common.{length, drop, not, ◌==◌, ◌-◌, ◌+◌, ◌≡◌, ◌≤◌}
use Rattle.std.specs.List.{prefix_len, position_or_len}
use Rattle.bpf_text.proofs.line.line_length.Given as goal

abbrev pub invariant-loop-n : goal.invariant-loop-n
invariant-loop-n l = record {
  within : l.n ≤ length l.text;
  rest : l.n + prefix_len (λ b. not (b == 10)) (drop l.n l.text)
      ≡ position_or_len (λ b. b == 10) l.text;
}

abbrev pub decreases-loop-n : goal.decreases-loop-n
decreases-loop-n l = length l.text - l.n
