-- A client's text in quotes. A quote, a backslash and anything but printable ASCII is escaped by
-- its code point.
use Rattle.std.specs.Prelude.{ℕ, List, ◌++◌, codes, Bool, not, ◌||◌, ◌==◌}
use Rattle.printing.specs.Laws.{EscapesAll, KeepsOthers}
use Rattle.printing.specs.Printed.{is_between, printed_by}

-- what never appears in quotes: anything but printable ASCII, which is 32 to 126, and the quote, 34
abbrev pub is_kept_out : ℕ → Bool
is_kept_out c = not (is_between 32 126 c) || (c == 34)

-- also the backslash, 92, since an escape begins with one
abbrev pub is_shown_by_number : ℕ → Bool
is_shown_by_number c = is_kept_out c || (c == 92)

-- such as `\u{22}`
unfoldable pub escaped : List ℕ → List ℕ
escaped text = printed_by is_shown_by_number text

-- with its quotes
abbrev pub quoted : List ℕ → List ℕ
quoted text = codes "\"" ++ escaped text ++ codes "\""

-- ---- laws

-- the text between the quotes has no quote, and only printable ASCII; a text of this form without a
-- backslash isn't changed
pub record QuotesEndTexts : Type 0 where
  pub none_there : EscapesAll is_kept_out escaped
  pub others_there : KeepsOthers is_shown_by_number escaped
