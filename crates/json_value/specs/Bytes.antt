-- Bytes as a text of JSON (RFC 8259).
use Rattle.std.specs.Prelude.{ℕ, List, ◌++◌, codes, Option, None, if◌then◌else◌}
use Rattle.std.specs.Str.{is_utf8}
use Rattle.serde_json.specs.Data.{Data}
use Rattle.serde_json.specs.Read.{read}
use Rattle.serde_json.specs.Written.{compact_text}

-- the value of the text that these bytes are
unfoldable pub json_of : List ℕ → Option Data
json_of bytes = if is_utf8 bytes then read bytes else None

-- a value without blanks, and the end of its line
unfoldable pub json_line : Data → List ℕ
json_line value = compact_text value ++ codes "\n"
