use Rattle.std.proofs.Common.{length, drop, ◌-◌, ◌+◌, ◌≡◌, ◌≤◌}
use Rattle.std.specs.List.{prefix_len}
use Rattle.lexing.specs.Letter.{is_word_byte}
use Rattle.bpf_text.proofs.token.name_length.Given as goal

abbrev pub invariant-loop-n : goal.invariant-loop-n
invariant-loop-n l = record {
  within : l.n ≤ length l.s;
  rest : l.n + prefix_len is_word_byte (drop l.n l.s) ≡ prefix_len is_word_byte l.s;
}

abbrev pub decreases-loop-n : goal.decreases-loop-n
decreases-loop-n l = length l.s - l.n
