use Rattle.std.proofs.Common.{◌≡◌, length}
use Rattle.std.specs.List.{list_any, zip}
use Rattle.std.specs.Option.{option_copied}
use Rattle.simulate.specs.Moving.{loses}
use Rattle.simulate.specs.Shown.{versions_or_none}
use Rattle.simulate.proofs.lost.some_lose.Given as goal

-- the buckets that are left decide
abbrev pub invariant-loop-from : goal.invariant-loop-from
invariant-loop-from l =
    list_any (λ move. loses (versions_or_none (option_copied l.now.0))
    (versions_or_none (option_copied l.next.0)) move.0 move.1) (zip l.from l.to)
    ≡ list_any (λ move. loses (versions_or_none (option_copied l.now.0))
    (versions_or_none (option_copied l.next.0)) move.0 move.1) (zip l.now.1.now l.next.1.now)

abbrev pub decreases-loop-from : goal.decreases-loop-from
decreases-loop-from l = length l.from
