use Rattle.std.proofs.Common.{◌≡◌, ◌+◌, length}
use Rattle.folder_facts.proofs.steps.unread_records.Given as goal

-- a sentence for each record so far
abbrev pub invariant-loop-left : goal.invariant-loop-left
invariant-loop-left l = length l.unread.items + length l.left ≡ length l.numbers

abbrev pub decreases-loop-left : goal.decreases-loop-left
decreases-loop-left l = length l.left
