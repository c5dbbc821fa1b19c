use Rattle.std.proofs.Common.{◌≡◌}
use Rattle.flow_check.specs.Laid.{is_after_wide, laid}
use Rattle.flow_check.specs.Sweep.{IsMarkedTo}
use Rattle.flow_check.proofs.reach.sweep.Given as goal

abbrev pub invariant-loop-slot : goal.invariant-loop-slot
invariant-loop-slot l = record {
  wide : l.wide ≡ is_after_wide l.code l.slot;
  marked : IsMarkedTo (laid l.code) l.slot l.marks;
}
