use Rattle.std.proofs.Common.{◌≡◌, ◌+◌, ◌++◌, List, length}
use Rattle.why_refused_manifest.specs.Further.{AreFaultsOf}
use Rattle.load.specs.declared.load_fault.LoadFault.{LoadFault}
use Rattle.why_refused_manifest.proofs.later_faults.faults_of.Given as goal

-- the faults so far, followed by those of the apps that are left, are the faults of all
abbrev pub invariant-loop-left : goal.invariant-loop-left
invariant-loop-left l = record {
  so_far : (rest : List LoadFault) → AreFaultsOf l.number l.left rest
      → AreFaultsOf l.first l.apps (l.faults.items ++ rest);
  within : l.number + length l.left ≡ l.first + length l.apps;
}

abbrev pub decreases-loop-left : goal.decreases-loop-left
decreases-loop-left l = length l.left
