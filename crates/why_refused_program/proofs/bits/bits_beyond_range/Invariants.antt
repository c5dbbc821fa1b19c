use Rattle.std.proofs.Common.{◌≡◌, ◌≤◌}
use Rattle.why_refused_program.specs.Values as specs
use Rattle.why_refused_program.proofs.bits.bits_beyond_range.Given as goal

-- no bit from here on says more
abbrev pub invariant-loop-left : goal.invariant-loop-left
invariant-loop-left l =
    (specs.bits_beyond_range l.number 64 ≡ specs.bits_beyond_range l.number l.left) × (l.left ≤ 64)

abbrev pub decreases-loop-left : goal.decreases-loop-left
decreases-loop-left l = l.left
