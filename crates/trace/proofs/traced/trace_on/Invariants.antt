use Rattle.std.proofs.Common.{◌-◌, length}
use Rattle.std.specs.Arc.{arc_value}
use Rattle.bpf_semantics.specs.State.{opening}
use Rattle.reference.specs.Marks.{state_of}
use Rattle.trace.proofs.Steps.{IsTold}
use Rattle.trace.proofs.traced.trace_on.Given as goal

abbrev pub invariant-steps : goal.invariant-steps
invariant-steps l = IsTold l.program (opening (arc_value l.fn.attrs)) l.initial.counters
    l.last_jump (state_of l.run) l.counters

abbrev pub decreases-steps : goal.decreases-steps
decreases-steps l = length l.program.code - (state_of l.run).slot
