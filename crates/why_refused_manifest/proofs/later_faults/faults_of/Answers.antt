use Rattle.std.proofs.Common.{List, arith}
use Rattle.std.proofs.lemmas.Grind.{common_steps}
use Rattle.why_refused_manifest.specs.Further.{AreFaultsOf}
use Rattle.load.specs.declared.load_fault.LoadFault.{LoadFault}
use Rattle.why_refused_manifest.proofs.AppWarnings.{first_rest, none_left}
use Rattle.why_refused_manifest.proofs.Judged.{judged_all, judged_more}
use Rattle.why_refused_manifest.proofs.later_faults.faults_of.Goals as goal

pub loop-left-preserved : goal.loop-left-preserved
loop-left-preserved c = record {
  so_far = λ rest later.
      judged_more _ _ _ _ _ _ _ rest
      (λ (v : List LoadFault). AreFaultsOf c.args.first c.args.apps.now v)
      c.loop-left.invariant.so_far c.in_ok-judged.ensures
      (first_rest c.loop-left.left.now c.app-item.result (omega arith) c.app-item.is)
      c.in_ok-push_fault.ensures later;
  within = grind (arith, common_steps);
}

pub returns : goal.returns
returns c =
    judged_all _ _ _ (λ (v : List LoadFault). AreFaultsOf c.args.first c.args.apps.now v)
    c.loop-left.invariant.so_far (none_left c.loop-left.left.now (omega arith))
