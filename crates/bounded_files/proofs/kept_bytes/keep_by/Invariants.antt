use Rattle.std.proofs.Common.{◌-◌, ◌<◌, ◌≤◌, length}
use Rattle.bounded_files.specs.SoFar.{IsReadSoFar}
use Rattle.bounded_files.proofs.kept_bytes.keep_by.Given as goal

-- what was read so far is kept as specified
abbrev pub invariant-reading : goal.invariant-reading
invariant-reading g l =
    IsReadSoFar l.kept (g.R.Read.remaining l.fn.reader) (g.R.Read.remaining l.reader) l.far
    × (l.far.count ≤ l.most)
    × (0 < length l.piece)

abbrev pub decreases-reading : goal.decreases-reading
decreases-reading g l = l.most - l.far.count
