use Rattle.std.proofs.Common.{◌≡◌, ◌++◌, IsUtf8, chars, string_bytes}
use Rattle.std.specs.List.{flat_map}
use Rattle.std.specs.Str.Iter.{chars_rest}
use Rattle.markup.specs.Xml.{xml_char, xml_text}
use Rattle.markup.proofs.xml.push_xml.Given as goal

-- the text so far and the remaining characters make the whole
abbrev pub invariant-loop-c : goal.invariant-loop-c
invariant-loop-c l =
    IsUtf8 (chars_rest l.c-iterator)
    × (string_bytes l.text ++ flat_map xml_char (chars (chars_rest l.c-iterator))
    ≡ string_bytes l.initial.text ++ xml_text l.more)
