use Rattle.std.proofs.Common.{◌≡◌, IsUtf8, chars}
use Rattle.std.specs.List.{list_any}
use Rattle.std.specs.Str.Iter.{chars_rest}
use Rattle.printing.specs.Printed.{has_control, is_control}
use Rattle.printing.proofs.escaped_text.has_control.Given as goal

-- no character so far is a control character
abbrev pub invariant-loop-c : goal.invariant-loop-c
invariant-loop-c l =
    IsUtf8 (chars_rest l.c-iterator)
    × (list_any is_control (chars (chars_rest l.c-iterator)) ≡ has_control l.text)
