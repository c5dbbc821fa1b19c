use Rattle.std.proofs.Common.{◌≡◌, ◌++◌, take, flat_map, string_bytes}
use Rattle.warnings.specs.Warnings.{warning_line}
use Rattle.warnings.proofs.warning_lines.push_warnings.Given as goal

-- the lines so far
abbrev pub invariant-loop-warning : goal.invariant-loop-warning
invariant-loop-warning l =
    string_bytes l.text
    ≡ string_bytes l.initial.text ++ flat_map warning_line (take l.warning-index l.warnings)
