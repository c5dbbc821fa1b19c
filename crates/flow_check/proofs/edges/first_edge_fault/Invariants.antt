use Rattle.std.proofs.Common.{◌≡◌, ℕ, ◌<◌}
use Rattle.flow_check.specs.Edges.{KeepsEdges}
use Rattle.flow_check.specs.Laid.{is_after_wide, laid}
use Rattle.flow_check.proofs.edges.first_edge_fault.Given as goal

abbrev pub invariant-loop-slot : goal.invariant-loop-slot
invariant-loop-slot l = record {
  wide : l.wide ≡ is_after_wide l.code l.slot;
  keeps : (k : ℕ) → k < l.slot → KeepsEdges (laid l.code) k;
}
