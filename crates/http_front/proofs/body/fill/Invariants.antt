use Rattle.std.proofs.Common.{◌≡◌, ◌≤◌, ◌-◌, length, Option, List, ℕ}
use Rattle.http_front.specs.Reading.{IsFilled}
use Rattle.http_front.proofs.body.fill.Given as goal

abbrev pub invariant-loop-filled : goal.invariant-loop-filled
invariant-loop-filled g l =
    ((all : Option (List ℕ))
    → IsFilled all (g.R.Read.remaining l.initial.reader.inner) l.initial.body l.fn.known
    → IsFilled all (g.R.Read.remaining l.reader.inner) l.body l.filled)
    × (l.filled ≤ length l.body)
    × (l.reader.failures ≡ l.initial.reader.failures)

abbrev pub decreases-loop-filled : goal.decreases-loop-filled
decreases-loop-filled g l = length l.body - l.filled
