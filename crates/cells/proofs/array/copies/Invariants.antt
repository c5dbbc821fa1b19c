use Rattle.std.proofs.Common.{◌≡◌, take}
use Rattle.cells.proofs.array.copies.Given as goal

abbrev pub invariant-loop-array : goal.invariant-loop-array
invariant-loop-array l = l.kept.items ≡ take l.array-index l.arrays
