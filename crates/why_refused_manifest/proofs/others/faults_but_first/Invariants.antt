use Rattle.std.proofs.Common.{◌≡◌, ◌++◌, drop, length, map}
use Rattle.std.specs.Vec.Iter.{into_iter_items, into_iter_len}
use Rattle.why_refused_manifest.proofs.others.faults_but_first.Given as goal

-- the faults so far, followed by those of what is left, are the faults of all but the first
abbrev pub invariant-loop-unfit : goal.invariant-loop-unfit
invariant-loop-unfit g l = record {
  so_far : l.faults.items ++ map g.U.Unfit.fault_of (into_iter_items l.unfit-iterator)
      ≡ map g.U.Unfit.fault_of (drop 1 l.fn.all.items);
  count : into_iter_len l.unfit-iterator ≡ length (into_iter_items l.unfit-iterator);
}
