-- The lines of halted apps. Each names an appid, in which blanks, control characters, `%` and what
-- is outside ASCII are escaped as in a URL, by `%` and two digits. None has a line feed, since an
-- operator names an app in a line.
use Rattle.std.specs.Prelude.{ℕ, ◌+◌, ◌-◌, ◌^◌, ◌<◌, List, ◌++◌, take, drop, codes, All}
use Rattle.std.specs.Prelude.{Option, Some, None, if◌then◌else◌, Bool, ◌&&◌, not, IsTrue}
use Rattle.std.specs.List.{list_any}
use Rattle.std.specs.Str.{IsUtf8, bytes_eq, is_utf8}
use Rattle.percent_encoding.specs.declared.ascii_set.AsciiSet.{AsciiSet}
use Rattle.percent_encoding.specs.Percent.{percent_decode, percent_encode}
use Rattle.releases.specs.Appid.{is_appid}
use Rattle.counters_file.specs.Lines.{is_line_feed}

-- the bytes of ASCII that are escaped: those below 33, and 37 and 127
abbrev pub escapes : AsciiSet
escapes = record { mask = 2 ^ 127 + 2 ^ 37 + 2 ^ 33 - 1 }

abbrev pub halted_word : List ℕ
halted_word = codes "halted "

abbrev pub halted_line : (appid : List ℕ) → List ℕ
halted_line appid = halted_word ++ percent_encode escapes appid

-- an app that can be halted has this appid
abbrev pub can_be_halted : List ℕ → Bool
can_be_halted appid = is_appid appid && not (list_any is_line_feed appid)

abbrev pub appid_in : List ℕ → Option (List ℕ)
appid_in bytes = if is_utf8 bytes && can_be_halted bytes then Some bytes else None

-- the appid that a line names, if it is such a line
abbrev pub halted_in : (line : List ℕ) → Option (List ℕ)
halted_in line =
    if bytes_eq (take 7 line) halted_word then appid_in (percent_decode (drop 7 line)) else None

-- the bytes of a text
pub record IsText (bytes : List ℕ) : Type 0 where
  pub utf8 : IsUtf8 bytes
  pub small : All (λ b. b < 256) bytes

-- the text is an appid that can be halted
abbrev pub CanBeHalted : List ℕ → Type 0
CanBeHalted appid = IsTrue (can_be_halted appid)
