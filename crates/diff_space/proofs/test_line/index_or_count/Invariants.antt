use Rattle.std.proofs.Common.{◌≡◌, ◌+◌, length}
use Rattle.diff_space.specs.Coordinates.{index_or_count}
use Rattle.diff_space.proofs.test_line.index_or_count.Given as goal

abbrev pub invariant-loop-left : goal.invariant-loop-left
invariant-loop-left l = record {
  so_far : l.place + index_or_count l.left l.text ≡ index_or_count l.texts l.text;
  within : l.place + length l.left ≡ length l.texts;
}

abbrev pub decreases-loop-left : goal.decreases-loop-left
decreases-loop-left l = length l.left
