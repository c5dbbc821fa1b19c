use Rattle.std.proofs.Common.{◌≡◌, ◌+◌, ◌-◌, ◌++◌, ◌≤◌, map}
use Rattle.std.specs.List.{flat_map, range_with_len}
use Rattle.std.specs.Option.{option_copied}
use Rattle.serde_json.specs.View.{view}
use Rattle.simulate.specs.Objects.{move_objects, objects_from}
use Rattle.simulate.specs.Shown.{offered}
use Rattle.simulate.proofs.move_objects.move_objects.Given as goal

abbrev pub invariant-loop-from : goal.invariant-loop-from
invariant-loop-from l =
    let now = offered (option_copied l.now.0) l.now.1.now in
    let next = offered (option_copied l.next.0) l.next.1.now in record {
      within : l.from ≤ l.last + 1;
      values : map view l.values.items
          ++ flat_map (objects_from now next) (range_with_len l.from (l.last + 1 - l.from))
          ≡ move_objects now next;
    }

abbrev pub decreases-loop-from : goal.decreases-loop-from
decreases-loop-from l = l.last + 1 - l.from
