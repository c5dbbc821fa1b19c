use Rattle.std.proofs.Common.{◌≤◌, ◌++◌, flat_map, length, reverse, take}
use Rattle.stage_servers.specs.Earlier.{AreNamedAs, files_left}
use Rattle.stage_servers.proofs.earlier_files.add_all_left.Given as goal

-- the files so far and those of the steps that are left make the same as at first
abbrev pub invariant-loop-count : goal.invariant-loop-count
invariant-loop-count l = record {
  within : l.count ≤ length l.steps;
  named : AreNamedAs (l.files.items ++ flat_map files_left (reverse (take l.count l.steps)))
      (l.fn.files.items ++ flat_map files_left (reverse l.steps));
}

abbrev pub decreases-loop-count : goal.decreases-loop-count
decreases-loop-count l = l.count
