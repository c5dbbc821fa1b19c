use Rattle.std.proofs.Common.{◌≡◌, ◌+◌}
use Rattle.timeline.specs.Loads.{loads_outside}
use Rattle.timeline.proofs.load_marks.loads_outside.Given as goal

-- the count so far and the remaining rows make the whole
abbrev pub invariant-loop-name : goal.invariant-loop-name
invariant-loop-name l =
    l.count + loads_outside l.bins l.name-iterator ≡ loads_outside l.bins l.loads.entries
