-- The columns of a table: texts padded with blanks to a width. A text is UTF-8, and a width is
-- counted in characters.
use Rattle.std.specs.Prelude.{ℕ, ◌-◌, List, [], ◌∷◌, ◌++◌, codes, length, max, replicate}
use Rattle.std.specs.Str.{chars}

-- `n` blanks
abbrev pub blanks : ℕ → List ℕ
blanks n = replicate n 32

-- how many characters a text has
abbrev pub width_of : List ℕ → ℕ
width_of text = length (chars text)

-- at the left of a width; a wider text is kept as it is
abbrev pub at_left : ℕ → List ℕ → List ℕ
at_left width text = text ++ blanks (width - width_of text)

-- a column, and two blanks
abbrev pub column : (width : ℕ) → List ℕ → List ℕ
column width text = at_left width text ++ codes "  "

-- the width of the widest of these texts, but at least `least`
abbrev pub widest : ℕ → List (List ℕ) → ℕ
widest least [] = least
widest least (text ∷ texts) = widest (max least (width_of text)) texts
