use Rattle.std.proofs.Common.{ℕ, ◌<◌}
use Rattle.bpf_text.proofs.Once.{DecodesOnce}
use Rattle.bpf_text.proofs.laws.one_listing.Given as goal

abbrev pub invariant-loop-slot : goal.invariant-loop-slot
invariant-loop-slot l = (k : ℕ) → k < l.slot → DecodesOnce l.bytes k
