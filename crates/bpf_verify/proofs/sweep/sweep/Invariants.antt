use Rattle.std.proofs.Common.{◌-◌, length}
use Rattle.bpf_semantics.specs.Program.{shaped}
use Rattle.bpf_verify.specs.Entries.{current_entry}
use Rattle.bpf_verify.specs.Sweep.{IsSwept}
use Rattle.bpf_verify.proofs.sweep.sweep.Given as goal

abbrev pub invariant-loop-slot : goal.invariant-loop-slot
invariant-loop-slot l = IsSwept (shaped l.flow l.shape) l.slot (current_entry l.entries)
    l.entries.waiting

abbrev pub decreases-loop-slot : goal.decreases-loop-slot
decreases-loop-slot l = length l.flow - l.slot
