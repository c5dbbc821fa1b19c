use Rattle.std.proofs.Common.{◌≡◌, length}
use Rattle.report.specs.Lines.{grown_by}
use Rattle.report.proofs.log_lines.append_each.Given as goal

-- the line so far with the remaining bytes is the line with all
abbrev pub invariant-loop-left : goal.invariant-loop-left
invariant-loop-left l =
    grown_by l.begun.items l.left ≡ grown_by l.fn.begun.items l.bytes

abbrev pub decreases-loop-left : goal.decreases-loop-left
decreases-loop-left l = length l.left
