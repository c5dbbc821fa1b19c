use Rattle.std.proofs.Common.{◌≡◌, ◌≤◌, ◌-◌, length, take}
use Rattle.operator.specs.Line.{LineGoesOn}
use Rattle.operator.proofs.request_line.read_line.Given as goal

-- the front of the buffer is the line, as far as it was read
abbrev pub invariant-loop-size : goal.invariant-loop-size
invariant-loop-size g l =
    LineGoesOn (g.R.Read.remaining l.initial.reader.inner) (g.R.Read.remaining l.reader.inner)
    (take l.size l.room)
    × (l.size ≤ length l.room)
    × (l.reader.failures ≡ l.initial.reader.failures)

abbrev pub decreases-loop-size : goal.decreases-loop-size
decreases-loop-size g l = length l.room - l.size
