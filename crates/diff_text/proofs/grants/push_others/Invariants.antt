use Rattle.std.proofs.Common.{◌≡◌, ◌++◌, length, string_bytes}
use Rattle.diff_text.specs.Grants.{or_texts}
use Rattle.diff_text.proofs.grants.push_others.Given as goal

-- the text so far, and the remaining ranges
abbrev pub invariant-loop-left : goal.invariant-loop-left
invariant-loop-left l =
    string_bytes l.text
    ++ or_texts l.cell.old.now l.cell.new.now l.cell.array.now l.cell.index l.cell.most l.left
    ≡ string_bytes l.initial.text
    ++ or_texts l.cell.old.now l.cell.new.now l.cell.array.now l.cell.index l.cell.most l.ranges

abbrev pub decreases-loop-left : goal.decreases-loop-left
decreases-loop-left l = length l.left
