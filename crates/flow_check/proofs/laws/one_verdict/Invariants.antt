use Rattle.std.proofs.Common.{◌≡◌, ◌-◌, length}
use Rattle.bpf_insn.specs.Program.{Program}
use Rattle.flow_check.specs.Reading.{IsReadAlone}
use Rattle.flow_check.proofs.laws.one_verdict.Given as goal

abbrev pub invariant-loop-slot : goal.invariant-loop-slot
invariant-loop-slot l = (before : Program) × IsReadAlone l.bytes before × (length before ≡ l.slot)

abbrev pub decreases-loop-slot : goal.decreases-loop-slot
decreases-loop-slot l = length l.bytes - l.slot
