use Rattle.std.proofs.Common.{List, ℕ, ◌++◌, length}
use Rattle.report.specs.Lines.{lines_after}
use Rattle.report.specs.Reading.{CountsLines}
use Rattle.report.specs.declared.counting.Report.{Report}
use Rattle.report.proofs.log_lines.count_block.Given as goal

-- counting the remaining bytes and those after the block completes the count
abbrev pub invariant-loop-left : goal.invariant-loop-left
invariant-loop-left l = (bytes : List ℕ) (last : Report)
    → CountsLines l.window (lines_after l.begun.items (l.left ++ bytes)) l.report last
    → CountsLines l.window (lines_after l.fn.begun.items (l.block ++ bytes)) l.fn.report last

abbrev pub decreases-loop-left : goal.decreases-loop-left
decreases-loop-left l = length l.left
