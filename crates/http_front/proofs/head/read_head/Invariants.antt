use Rattle.std.proofs.Common.{◌≡◌, ◌-◌, length}
use Rattle.http_front.specs.Reading.{IsFilled}
use Rattle.http_front.proofs.head.read_head.Given as goal

abbrev pub invariant-reading : goal.invariant-reading
invariant-reading g l =
    IsFilled (g.R.Read.remaining l.initial.reader.inner) (g.R.Read.remaining l.reader.inner) l.buf
    l.filled
    × (l.reader.failures ≡ l.initial.reader.failures)
    × (length l.headers ≡ 64)

abbrev pub decreases-reading : goal.decreases-reading
decreases-reading g l = length l.buf - l.filled
