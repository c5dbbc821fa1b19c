use Rattle.std.proofs.Common.{◌≡◌, length, map}
use Rattle.std.specs.List.{list_all}
use Rattle.warnings.specs.Names.{is_warning_name}
use Rattle.cli_tool_words.proofs.check_words.are_names.Given as goal

-- the remaining texts decide
abbrev pub invariant-loop-left : goal.invariant-loop-left
invariant-loop-left l =
    list_all is_warning_name (map (λ name. name.now) l.left)
    ≡ list_all is_warning_name (map (λ name. name.now) l.texts)

abbrev pub decreases-loop-left : goal.decreases-loop-left
decreases-loop-left l = length l.left
