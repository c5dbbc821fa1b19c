use Rattle.std.proofs.Common.{◌≡◌, ◌++◌}
use Rattle.std.specs.Prelude.{filter}
use Rattle.std.specs.Vec.Iter.{into_iter_items}
use Rattle.stage_folder.specs.Steps.{is_change}
use Rattle.stage_commands.proofs.put_files.changes_in.Given as goal

-- the changes so far, followed by those of what is left, are all changes
abbrev pub invariant-loop-file : goal.invariant-loop-file
invariant-loop-file l =
    l.files.items ++ filter is_change (into_iter_items l.file-iterator)
    ≡ filter is_change l.fn.all.items
