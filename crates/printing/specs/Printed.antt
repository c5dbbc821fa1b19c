-- Printing untrusted text. Control characters are escaped in Rust's notation, so no such text can
-- start a line or control the terminal. Texts are UTF-8.
use Rattle.std.specs.Prelude.{ℕ, List, ◌++◌, codes, nat_le, encode_utf8, flat_map}
use Rattle.std.specs.Prelude.{Bool, false, not, ◌&&◌, ◌||◌, ◌==◌, if◌then◌else◌}
use Rattle.std.specs.Fmt.{digits}
use Rattle.std.specs.List.{list_any}
use Rattle.std.specs.Str.{chars}

abbrev pub is_between : (from to c : ℕ) → Bool
is_between from to c = nat_le from c && nat_le c to

-- characters to escape: U+0000 to U+001F and U+007F to U+009F (Unicode's category Cc); the
-- separators of lines and paragraphs, U+2028 and U+2029; and those that change the writing
-- direction (UAX #9, section 2; the twelve of Unicode's Bidi_Control): U+061C, U+200E, U+200F,
-- U+202A to U+202E and U+2066 to U+2069
abbrev pub is_control : ℕ → Bool
is_control c =
    is_between 0 31 c || is_between 127 159 c || (c == 1564) || is_between 8206 8207 c
    || is_between 8232 8238 c || is_between 8294 8297 c

-- in a text of several lines, tabs and line feeds aren't escaped
abbrev pub is_control_in_line : ℕ → Bool
is_control_in_line c = is_control c && not ((c == 9) || (c == 10))

-- such as `\u{1b}`
abbrev pub escape : ℕ → List ℕ
escape c = codes "\\u{" ++ digits 16 false c ++ codes "}"

module _ (is_escaped : ℕ → Bool) where
  abbrev pub printed_char : ℕ → List ℕ
  printed_char c = if is_escaped c then escape c else encode_utf8 c

  -- the text with these characters escaped
  abbrev pub printed_by : List ℕ → List ℕ
  printed_by text = flat_map printed_char (chars text)

-- a text for one line
unfoldable pub printed : List ℕ → List ℕ
printed text = printed_by is_control text

-- a text of several lines, which may be indented by tabs
unfoldable pub printed_lines : List ℕ → List ℕ
printed_lines text = printed_by is_control_in_line text

-- whether a character of the text must be escaped
abbrev pub has_control : List ℕ → Bool
has_control text = list_any is_control (chars text)
