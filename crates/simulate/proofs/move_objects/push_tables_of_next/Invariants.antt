use Rattle.std.proofs.Common.{◌≡◌, ◌++◌, length, map}
use Rattle.serde_json.specs.View.{view}
use Rattle.simulate.specs.Objects.{moving_objects_of}
use Rattle.simulate.proofs.move_objects.push_tables_of_next.Given as goal

abbrev pub invariant-loop-left : goal.invariant-loop-left
invariant-loop-left l =
    map view l.values.items ++ moving_objects_of l.now l.next l.left
    ≡ map view l.initial.values.items ++ moving_objects_of l.now l.next l.next.apps

abbrev pub decreases-loop-left : goal.decreases-loop-left
decreases-loop-left l = length l.left
