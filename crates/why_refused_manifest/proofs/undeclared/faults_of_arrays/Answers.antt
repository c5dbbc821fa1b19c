use Rattle.std.proofs.Common.{List, arith}
use Rattle.std.proofs.lemmas.Grind.{common_steps}
use Rattle.why_refused_manifest.specs.Undeclared.{AreFaultsOfArrays}
use Rattle.load.specs.declared.load_fault.LoadFault.{LoadFault}
use Rattle.why_refused_manifest.proofs.AppWarnings.{first_rest, none_left}
use Rattle.why_refused_manifest.proofs.Declared.{declared_all, declared_more}
use Rattle.why_refused_manifest.proofs.undeclared.faults_of_arrays.Goals as goal

pub loop-left-preserved : goal.loop-left-preserved
loop-left-preserved c = record {
  so_far = λ rest later.
      declared_more _ _ _ _ _ _ _ _ _ rest
      (λ (v : List LoadFault). AreFaultsOfArrays c.args.first c.args.directory.now
      c.args.arrays.now v) c.loop-left.invariant.so_far c.in_ok-judged.ensures
      (first_rest c.loop-left.left.now c.array-item.result (omega arith) c.array-item.is)
      c.in_ok-push_cells_fault.ensures later;
  within = grind (arith, common_steps);
}

pub returns : goal.returns
returns c =
    declared_all _ _ _ _
    (λ (v : List LoadFault). AreFaultsOfArrays c.args.first c.args.directory.now
    c.args.arrays.now v) c.loop-left.invariant.so_far
    (none_left c.loop-left.left.now (omega arith))
