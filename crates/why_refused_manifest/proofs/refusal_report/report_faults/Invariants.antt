use Rattle.std.proofs.Common.{◌≡◌, ◌++◌, length}
use Rattle.std.specs.Vec.Iter.{into_iter_items, into_iter_len}
use Rattle.why_refused_manifest.specs.Reported.{faults_in}
use Rattle.why_refused_manifest.proofs.refusal_report.report_faults.Given as goal

-- the faults so far and those that are left are all
abbrev pub invariant-loop-fault : goal.invariant-loop-fault
invariant-loop-fault l = record {
  so_far : faults_in l.all.items ++ into_iter_items l.fault-iterator ≡ l.fn.faults.items;
  count : into_iter_len l.fault-iterator ≡ length (into_iter_items l.fault-iterator);
}
