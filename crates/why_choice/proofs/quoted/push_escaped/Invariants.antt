use Rattle.std.proofs.Common.{◌≡◌, ◌++◌, IsUtf8, chars, flat_map, string_bytes}
use Rattle.std.specs.Str.Iter.{chars_rest}
use Rattle.printing.specs.Printed.{printed_char}
use Rattle.why_choice.specs.Quoted.{is_shown_by_number, escaped}
use Rattle.why_choice.proofs.quoted.push_escaped.Given as goal

-- the remaining characters complete the text
abbrev pub invariant-loop-c : goal.invariant-loop-c
invariant-loop-c l =
    IsUtf8 (chars_rest l.c-iterator)
    × (string_bytes l.text
    ++ flat_map (printed_char is_shown_by_number) (chars (chars_rest l.c-iterator))
    ≡ string_bytes l.initial.text ++ escaped l.client)
