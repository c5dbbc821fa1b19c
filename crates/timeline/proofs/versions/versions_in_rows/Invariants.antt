use Rattle.std.proofs.Common.{◌≡◌, ◌++◌, map, string_bytes}
use Rattle.timeline.specs.Versions.{versions_in_rows}
use Rattle.timeline.proofs.versions.versions_in_rows.Given as goal

-- the versions so far and those of the remaining rows are all
abbrev pub invariant-loop-name : goal.invariant-loop-name
invariant-loop-name l =
    map string_bytes l.versions.items ++ versions_in_rows l.app l.name-iterator
    ≡ versions_in_rows l.app l.rows.entries
