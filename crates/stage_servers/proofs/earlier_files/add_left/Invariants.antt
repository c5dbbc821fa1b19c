use Rattle.std.proofs.Common.{◌≤◌, ◌++◌, flat_map, length, reverse, take, true}
use Rattle.stage_servers.specs.Earlier.{AreNamedAs, files_if_done}
use Rattle.stage_servers.proofs.earlier_files.add_left.Given as goal

-- the files so far and those of the steps that are left make the same as at first
abbrev pub invariant-loop-count : goal.invariant-loop-count
invariant-loop-count l = record {
  within : l.count ≤ length l.steps;
  named : AreNamedAs
      (l.files.items ++ flat_map (files_if_done true) (reverse (take l.count l.steps)))
      (l.fn.files.items ++ flat_map (files_if_done true) (reverse l.steps));
}

abbrev pub decreases-loop-count : goal.decreases-loop-count
decreases-loop-count l = l.count
