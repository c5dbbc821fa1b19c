use Rattle.std.proofs.Common.{◌≡◌, length, map}
use Rattle.server_replies.specs.Replies.{first_after}
use Rattle.server_replies.proofs.reply_lines.first_after.Given as goal

-- the text in the lines that are left is that in all of them
abbrev pub invariant-loop-left : goal.invariant-loop-left
invariant-loop-left l =
    first_after l.word (map (λ line. line.now) l.left)
    ≡ first_after l.word (map (λ line. line.now) l.lines)

abbrev pub decreases-loop-left : goal.decreases-loop-left
decreases-loop-left l = length l.left
