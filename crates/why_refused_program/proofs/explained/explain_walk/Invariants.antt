use Rattle.std.proofs.Common.{◌-◌, ℕ, List, Some, length, string_bytes}
use Rattle.bpf_verify.specs.Walk.{IsWalkBefore}
use Rattle.bpf_semantics.specs.Program.{shaped}
use Rattle.why_refused_program.specs.Lines.{ExplainsUpTo}
use Rattle.why_refused_program.proofs.explained.explain_walk.Given as goal

abbrev pub invariant-loop-slot : goal.invariant-loop-slot
invariant-loop-slot l =
    ((why : List ℕ)
    → ExplainsUpTo (shaped l.flow l.shape) why (Some l.way) l.slot (string_bytes l.text))
    × IsWalkBefore l.flow l.shape l.slot l.walk

abbrev pub decreases-loop-slot : goal.decreases-loop-slot
decreases-loop-slot l = length l.flow - l.slot
