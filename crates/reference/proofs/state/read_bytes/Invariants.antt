use Rattle.std.proofs.Common.{◌≡◌, ℕ, ◌+◌, ◌<◌, length}
use Rattle.std.specs.Prelude.{Some, slice_index}
use Rattle.reference.specs.Marks.{mark_at}
use Rattle.reference.proofs.state.read_bytes.Given as goal

abbrev pub invariant-loop-k : goal.invariant-loop-k
invariant-loop-k l = record {
  size : length l.into ≡ length l.fn.into;
  bytes : (i : ℕ) → i < l.k → mark_at l.marks (l.place + i) ≡ Some (slice_index l.into i);
}
