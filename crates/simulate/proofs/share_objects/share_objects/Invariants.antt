use Rattle.std.proofs.Common.{◌≡◌, ◌+◌, ◌-◌, ◌++◌, ◌≤◌, map}
use Rattle.std.specs.List.{flat_map, range_with_len}
use Rattle.serde_json.specs.View.{view}
use Rattle.simulate.specs.Objects.{share_objects, share_of_choice}
use Rattle.simulate.specs.Shown.{versions_of}
use Rattle.simulate.proofs.share_objects.share_objects.Given as goal

-- the objects so far, with those of the choices that are left, are all
abbrev pub invariant-loop-choice : goal.invariant-loop-choice
invariant-loop-choice l = record {
  within : l.choice ≤ l.count + 1;
  values : map view l.values.items ++ flat_map (share_of_choice (versions_of l.app) l.choices)
      (range_with_len l.choice (l.count + 1 - l.choice))
      ≡ share_objects (versions_of l.app) l.choices;
}

abbrev pub decreases-loop-choice : goal.decreases-loop-choice
decreases-loop-choice l = l.count + 1 - l.choice
