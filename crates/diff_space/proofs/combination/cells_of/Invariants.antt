use Rattle.std.proofs.Common.{◌≡◌, take}
use Rattle.diff_space.specs.Families.{AreFew, cells_by}
use Rattle.diff_space.proofs.combination.cells_of.Given as goal

-- the cells so far
abbrev pub invariant-loop-place : goal.invariant-loop-place
invariant-loop-place l =
    AreFew l.dimensions
    → l.cells.items ≡ cells_by l.dimensions (take l.place-index l.members) l.combination
