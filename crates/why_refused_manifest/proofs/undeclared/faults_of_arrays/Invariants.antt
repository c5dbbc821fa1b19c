use Rattle.std.proofs.Common.{◌≡◌, ◌+◌, ◌++◌, List, length}
use Rattle.why_refused_manifest.specs.Undeclared.{AreFaultsOfArrays}
use Rattle.load.specs.declared.load_fault.LoadFault.{LoadFault}
use Rattle.why_refused_manifest.proofs.undeclared.faults_of_arrays.Given as goal

-- the faults so far, followed by those of the arrays that are left, are the faults of all
abbrev pub invariant-loop-left : goal.invariant-loop-left
invariant-loop-left l = record {
  so_far : (rest : List LoadFault) → AreFaultsOfArrays l.number l.directory l.left rest
      → AreFaultsOfArrays l.first l.fn.directory l.arrays (l.faults.items ++ rest);
  within : l.number + length l.left ≡ l.first + length l.arrays;
}

abbrev pub decreases-loop-left : goal.decreases-loop-left
decreases-loop-left l = length l.left
