use Rattle.std.proofs.Common.{◌≡◌, length}
use Rattle.cells.specs.Directory as directories
use Rattle.counters_file.proofs.fields.array_named.Given as goal

abbrev pub invariant-loop-left : goal.invariant-loop-left
invariant-loop-left l =
    directories.array_named l.name l.fn.arrays ≡ directories.array_named l.name l.left

abbrev pub decreases-loop-left : goal.decreases-loop-left
decreases-loop-left l = length l.left
