-- How a text is printed in a line: a string of JSON (RFC 8259, section 7), in which each control
-- that a terminal may obey is also escaped. And how tokens with such strings are printed.
use Rattle.std.specs.Prelude.{◌≡◌, ℕ, ◌/◌, ◌%◌, List, [], ◌∷◌, ◌++◌, Bool, true, false}
use Rattle.std.specs.Prelude.{length, nat_lt, if◌then◌else◌, encode_utf8, Some}
use Rattle.std.specs.Char.{digit_char}
use Rattle.std.specs.List.{flat_map}
use Rattle.std.specs.Str.{chars, IsUtf8}
use Rattle.json.specs.Print.{escape_byte, token_text, separator, ends}
use Rattle.json.specs.Text.{content, plain}
use Rattle.json.specs.Token.{Token, key, string}
use Rattle.printing.specs.Printed.{is_control}

-- `\u` and four hexadecimal digits
abbrev pub unicode_escape : ℕ → List ℕ
unicode_escape c =
    92 ∷ 117 ∷ digit_char (c / 4096) ∷ digit_char (c / 256 % 16) ∷ digit_char (c / 16 % 16)
    ∷ digit_char (c % 16) ∷ []

-- a character: below U+007F, which is a control, with the shortest escape
abbrev pub spelled_char : ℕ → List ℕ
spelled_char c =
    if nat_lt c 127 then escape_byte c
    else if is_control c then unicode_escape c
    else encode_utf8 c

-- the characters of a text, which is UTF-8
abbrev pub spelled_text : List ℕ → List ℕ
spelled_text text = flat_map spelled_char (chars text)

abbrev pub spelled_quoted : List ℕ → List ℕ
spelled_quoted text = 34 ∷ (spelled_text text ++ 34 ∷ [])

-- a reader of JSON reads the text back from what follows its opening quote
abbrev pub IsReadBack : List ℕ → Type 0
IsReadBack text =
    IsUtf8 text → (behind : List ℕ) → content plain (spelled_text text ++ 34 ∷ behind) ≡ Some text

-- a token: names and texts as above, and any other as the kit's writer prints it
abbrev pub spelled_token : Token → List ℕ
spelled_token (key name) = spelled_quoted name ++ 58 ∷ []
spelled_token (string text) = spelled_quoted text
spelled_token t = token_text t

-- tokens, with the commas between them, after a value or not
unfoldable pub spelled_from : Bool → List Token → List ℕ
spelled_from after [] = []
spelled_from after (t ∷ ts) = separator after t ++ (spelled_token t ++ spelled_from (ends t) ts)

abbrev pub spelled : List Token → List ℕ
spelled = spelled_from false

-- the bytes of tokens that follow a value, with the comma between them
abbrev pub size_of : List Token → ℕ
size_of tokens = length (spelled_from true tokens)
