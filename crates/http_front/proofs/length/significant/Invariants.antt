use Rattle.std.proofs.Common.{◌≡◌, length}
use Rattle.http_front.specs.Length.{significant}
use Rattle.http_front.proofs.length.significant.Given as goal

-- the zeros that were skipped don't count
abbrev pub invariant-loop-text : goal.invariant-loop-text
invariant-loop-text l = significant l.text ≡ significant l.initial.text

abbrev pub decreases-loop-text : goal.decreases-loop-text
decreases-loop-text l = length l.text
