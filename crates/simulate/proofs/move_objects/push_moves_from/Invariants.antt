use Rattle.std.proofs.Common.{◌≡◌, ◌+◌, ◌-◌, ◌++◌, ◌≤◌, map}
use Rattle.std.specs.List.{flat_map, range_with_len}
use Rattle.std.specs.Option.{option_copied}
use Rattle.serde_json.specs.View.{view}
use Rattle.simulate.specs.Objects.{move_between, objects_from}
use Rattle.simulate.specs.Shown.{offered}
use Rattle.simulate.proofs.move_objects.push_moves_from.Given as goal

abbrev pub invariant-loop-to : goal.invariant-loop-to
invariant-loop-to l =
    let now = offered (option_copied l.now.0) l.now.1.now in
    let next = offered (option_copied l.next.0) l.next.1.now in record {
      within : l.to ≤ l.last + 1;
      values : map view l.values.items
          ++ flat_map (move_between now next l.from) (range_with_len l.to (l.last + 1 - l.to))
          ≡ map view l.initial.values.items ++ objects_from now next l.from;
    }

abbrev pub decreases-loop-to : goal.decreases-loop-to
decreases-loop-to l = l.last + 1 - l.to
