-- A text as character data of XML 1.0 (sections 2.2 and 2.4). Markup is escaped. Control characters
-- and what isn't a character of XML become question marks. Texts are UTF-8.
use Rattle.std.specs.Prelude.{ℕ, List, codes, nat_lt, encode_utf8}
use Rattle.std.specs.Prelude.{Bool, ◌==◌, ◌||◌, if◌then◌else◌}
use Rattle.std.specs.List.{flat_map}
use Rattle.std.specs.Str.{chars}

-- control characters below U+0080, and U+FFFE and U+FFFF, which aren't characters of XML
abbrev pub is_unprintable : ℕ → Bool
is_unprintable c = nat_lt c 32 || (c == 127) || (c == 65534) || (c == 65535)

-- an entity for & < > " ', and a question mark or the character itself for any other
abbrev pub xml_char : ℕ → List ℕ
xml_char c =
    if c == 38 then codes "&amp;"
    else if c == 60 then codes "&lt;"
    else if c == 62 then codes "&gt;"
    else if c == 34 then codes "&quot;"
    else if c == 39 then codes "&#39;"
    else if is_unprintable c then codes "?"
    else encode_utf8 c

-- the text as character data
abbrev pub xml_text : List ℕ → List ℕ
xml_text text = flat_map xml_char (chars text)
