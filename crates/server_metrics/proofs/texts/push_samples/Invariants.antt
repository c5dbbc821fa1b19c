use Rattle.std.proofs.Common.{◌≡◌, ◌++◌, length, map, string_bytes}
use Rattle.server_metrics.specs.Servers.{halted_samples}
use Rattle.server_metrics.proofs.texts.push_samples.Given as goal

-- the text so far and the remaining samples make the whole
abbrev pub invariant-loop-left : goal.invariant-loop-left
invariant-loop-left l =
    string_bytes l.text ++ halted_samples (map (λ line. line.now) l.left)
    ≡ string_bytes l.fn.text ++ halted_samples (map (λ line. line.now) l.lines)

abbrev pub decreases-loop-left : goal.decreases-loop-left
decreases-loop-left l = length l.left
