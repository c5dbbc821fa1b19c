use Rattle.std.proofs.Common.{◌≡◌, ◌++◌, take, flat_map, string_bytes}
use Rattle.ruleset.specs.Texts.{app_line}
use Rattle.ruleset.proofs.app_lines.push_app_lines.Given as goal

-- the lines of the apps so far
abbrev pub invariant-loop-app : goal.invariant-loop-app
invariant-loop-app l =
    string_bytes l.text
    ≡ string_bytes l.initial.text ++ flat_map app_line (take l.app-index l.apps)
