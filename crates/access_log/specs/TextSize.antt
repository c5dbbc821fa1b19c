-- How many bytes a text may take in a line.
use Rattle.std.specs.Prelude.{ℕ, ◌+◌, List, [], ◌∷◌, length, ◌||◌, ◌==◌, nat_lt, if◌then◌else◌}
use Rattle.std.specs.Char.{len_utf8}
use Rattle.std.specs.Str.{byte, chars}
use Rattle.printing.specs.Printed.{is_control}

-- the most bytes that a character of a text takes: an escape may have six (RFC 8259, section 7)
abbrev pub char_size : ℕ → ℕ
char_size c =
    if is_control c then 6
    else (if (c == byte "\"") || (c == byte "\\") then 2 else len_utf8 c)

unfoldable pub chars_size : List ℕ → ℕ
chars_size [] = 0
chars_size (c ∷ cs) = char_size c + chars_size cs

-- for a text that is longer than a line, more bytes than a line has
abbrev pub text_size : List ℕ → ℕ
text_size text = if nat_lt 4096 (length text) then 4097 else chars_size (chars text)
