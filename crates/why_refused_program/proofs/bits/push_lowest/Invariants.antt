use Rattle.std.proofs.Common.{◌≡◌, ◌≤◌, ◌++◌, string_bytes}
use Rattle.why_refused_program.specs.Values.{lowest_bits}
use Rattle.why_refused_program.proofs.bits.push_lowest.Given as goal

abbrev pub invariant-loop-left : goal.invariant-loop-left
invariant-loop-left l =
    (string_bytes l.text ++ lowest_bits l.number l.left
    ≡ string_bytes l.initial.text ++ lowest_bits l.number l.fn.count)
    × (l.left ≤ 64)

abbrev pub decreases-loop-left : goal.decreases-loop-left
decreases-loop-left l = l.left
