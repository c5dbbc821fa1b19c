use Rattle.std.proofs.Common.{◌-◌, ℕ, List, None, length, string_bytes}
use Rattle.bpf_semantics.specs.Program.{shaped}
use Rattle.cells.specs.Arrays.{AppShape}
use Rattle.why_refused_program.specs.Lines.{WalkParts, ExplainsUpTo}
use Rattle.why_refused_program.proofs.explained.push_rest.Given as goal

abbrev pub invariant-loop-slot : goal.invariant-loop-slot
invariant-loop-slot l =
    WalkParts l.flow l.slot
    × ((shape : AppShape) (why : List ℕ)
    → ExplainsUpTo (shaped l.flow shape) why None l.initial.slot (string_bytes l.initial.text)
    → ExplainsUpTo (shaped l.flow shape) why None l.slot (string_bytes l.text))

abbrev pub decreases-loop-slot : goal.decreases-loop-slot
decreases-loop-slot l = length l.flow - l.slot
