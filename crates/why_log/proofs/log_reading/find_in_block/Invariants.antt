use Rattle.std.proofs.Common.{length}
use Rattle.why_log.specs.Found.{Keeps}
use Rattle.why_log.proofs.log_reading.find_in_block.Given as goal

-- the lines so far are the machine's
abbrev pub invariant-loop-left : goal.invariant-loop-left
invariant-loop-left l = Keeps l.machine l.fn.found l.found

abbrev pub decreases-loop-left : goal.decreases-loop-left
decreases-loop-left l = length l.left
