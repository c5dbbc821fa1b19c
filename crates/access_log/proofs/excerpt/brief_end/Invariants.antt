use Rattle.std.proofs.Common.{◌≤◌}
use Rattle.std.specs.Str.{IsCharBoundary}
use Rattle.access_log.proofs.Cut.{IsTooLong}
use Rattle.access_log.proofs.excerpt.brief_end.Given as goal

abbrev pub invariant-loop-end : goal.invariant-loop-end
invariant-loop-end l =
    (l.end ≤ l.most) × IsCharBoundary l.text l.end × IsTooLong l.most l.text l.end

abbrev pub decreases-loop-end : goal.decreases-loop-end
decreases-loop-end l = l.end
