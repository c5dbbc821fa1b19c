use Rattle.std.proofs.Common.{◌-◌, length}
use Rattle.bpf_verify.specs.Walk.{IsWalkBefore}
use Rattle.why_refused_program.specs.Lines.{WalkParts}
use Rattle.why_refused_program.proofs.refused.first_refused.Given as goal

abbrev pub invariant-loop-slot : goal.invariant-loop-slot
invariant-loop-slot l = WalkParts l.flow l.slot × IsWalkBefore l.flow l.shape l.slot l.walk

abbrev pub decreases-loop-slot : goal.decreases-loop-slot
decreases-loop-slot l = length l.flow - l.slot
