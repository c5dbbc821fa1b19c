use Rattle.std.proofs.Common.{◌≡◌, take}
use Rattle.std.specs.List.{flat_map}
use Rattle.std.specs.String.{string_bytes}
use Rattle.cli_tasks.specs.Replays.{reply_line}
use Rattle.cli_tasks.proofs.replays.lines_of.Given as goal

-- the lines of the replies so far
abbrev pub invariant-loop-reply : goal.invariant-loop-reply
invariant-loop-reply l = string_bytes l.text ≡ flat_map reply_line (take l.reply-index l.replies)
