use Rattle.std.proofs.Common.{◌≡◌, ◌++◌, filter, not}
use Rattle.std.specs.Vec.Iter.{into_iter_items}
use Rattle.report_state.specs.Places.{are_alike}
use Rattle.report_state.proofs.noting.unlike.Given as goal

-- those that are kept, and those that are left
abbrev pub invariant-loop-other : goal.invariant-loop-other
invariant-loop-other l =
    l.others.items ++ filter (λ other. not (are_alike l.place other))
    (into_iter_items l.other-iterator)
    ≡ filter (λ other. not (are_alike l.place other)) (into_iter_items l.initial.other-iterator)
