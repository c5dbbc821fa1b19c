use Rattle.std.proofs.Common.{◌≡◌, ℕ, List, ◌++◌, IsUtf8, chars, flat_map}
use Rattle.std.specs.Fmt.{HasWritten, IsPlainFormatter}
use Rattle.std.specs.Str.Iter.{chars_rest}
use Rattle.printing.specs.Printed.{is_control_in_line, printed_lines, printed_char}
use Rattle.printing.proofs.escaped_text.write_lines.Given as goal

-- the output so far and the remaining characters make the whole
abbrev pub invariant-loop-c : goal.invariant-loop-c
invariant-loop-c g l =
    IsUtf8 (chars_rest l.c-iterator)
    × (IsPlainFormatter l.initial.f → (done : List ℕ)
    × HasWritten g.W.Write.write_str_gives l.initial.f done l.f
    × (done ++ flat_map (printed_char is_control_in_line) (chars (chars_rest l.c-iterator))
    ≡ printed_lines l.text))
