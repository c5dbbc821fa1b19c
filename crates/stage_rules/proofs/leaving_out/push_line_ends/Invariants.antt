use Rattle.std.proofs.Common.{◌≡◌, ◌++◌, ◌==◌, filter, length, string_bytes}
use Rattle.stage_rules.proofs.leaving_out.push_line_ends.Given as goal

-- the text so far, with the line ends that are left, is the whole
abbrev pub invariant-loop-left : goal.invariant-loop-left
invariant-loop-left l =
    string_bytes l.new ++ filter (λ byte. byte == 10) l.left
    ≡ string_bytes l.fn.new ++ filter (λ byte. byte == 10) l.part

abbrev pub decreases-loop-left : goal.decreases-loop-left
decreases-loop-left l = length l.left
