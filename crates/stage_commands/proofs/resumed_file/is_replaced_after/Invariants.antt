use Rattle.std.proofs.Common.{◌≡◌, length}
use Rattle.std.specs.List.{list_any}
use Rattle.stage_commands.specs.Resumes.{replaces_after}
use Rattle.stage_commands.proofs.resumed_file.is_replaced_after.Given as goal

-- what is left decides
abbrev pub invariant-loop-left : goal.invariant-loop-left
invariant-loop-left l =
    list_any (replaces_after l.number l.name) l.left
    ≡ list_any (replaces_after l.number l.name) l.steps

abbrev pub decreases-loop-left : goal.decreases-loop-left
decreases-loop-left l = length l.left
