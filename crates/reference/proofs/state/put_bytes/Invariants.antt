use Rattle.std.proofs.Common.{◌≡◌, ℕ, ◌/◌, ◌^◌, length}
use Rattle.bpf_semantics.specs.State.{with_bytes}
use Rattle.reference.specs.Marks.{mark_at}
use Rattle.reference.proofs.state.put_bytes.Given as goal

abbrev pub invariant-loop-k : goal.invariant-loop-k
invariant-loop-k l = record {
  size : length l.marks ≡ length l.fn.marks;
  rest : l.rest ≡ l.value / 256 ^ l.k;
  bytes : (j : ℕ) → mark_at l.marks j ≡ with_bytes (mark_at l.fn.marks) l.place l.k l.value j;
}
