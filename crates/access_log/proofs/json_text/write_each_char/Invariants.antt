use Rattle.std.proofs.Common.{◌≡◌, ◌++◌, IsUtf8, chars}
use Rattle.std.specs.List.{flat_map}
use Rattle.std.specs.Str.Iter.{chars_rest}
use Rattle.access_log.specs.Spelled.{spelled_char, spelled_text}
use Rattle.access_log.proofs.json_text.write_each_char.Given as goal

-- what is written, followed by the characters that are left, is the whole text
abbrev pub invariant-loop-c : goal.invariant-loop-c
invariant-loop-c l =
    IsUtf8 (chars_rest l.c-iterator)
    × (l.line ++ flat_map spelled_char (chars (chars_rest l.c-iterator))
    ≡ l.initial.line ++ spelled_text l.text)
