-- The tokens of a rule's text; at each place the longest possible token counts. Spaces, tabs, line
-- ends (LF or CR LF) and comments, from # to the line's end, separate them.
use Rattle.std.specs.Prelude.{ℕ, ◌+◌, List, [], ◌∷◌, take, drop, Option, Some, None}
use Rattle.std.specs.Prelude.{Bool, true, false, ◌&&◌, ◌||◌, not, ◌==◌, if◌then◌else◌}
use Rattle.std.specs.List.{prefix_len}
use Rattle.std.specs.Char.{is_ascii_digit}
use Rattle.lexing.specs.Letter.{is_letter, is_word_byte}
use Rattle.rule_lang.specs.declared.keyword.Keyword.{Keyword}
use Rattle.rule_lang.specs.declared.test.Comparison.TheVariants.{Lt, Le, Eq, Ne, Ge, Gt}
use Rattle.rule_lang.specs.declared.token.Class as the_class
use Rattle.rule_lang.specs.declared.token.Class.TheVariants as class
use Rattle.rule_lang.specs.declared.token.Piece as the_piece
use Rattle.rule_lang.specs.declared.token.Piece.TheVariants as piece
use Rattle.rule_lang.specs.declared.token.Token as the_token
use Rattle.rule_lang.specs.declared.token.Token.TheVariants as token
use Rattle.rule_lang.specs.Literals.{is_literal_byte}
use Rattle.rule_lang.specs.Words.{keyword_named}

abbrev pub Text : Type 0
Text = List ℕ

abbrev pub Token : Type 0
Token = the_token.Token Text

-- a blank, a line's end or a token, with its number of bytes
abbrev pub Piece : Type 0
Piece = the_piece.Piece Text

-- ---- classes of bytes, in ASCII

abbrev pub is_in : the_class.Class → ℕ → Bool
is_in class.Name c = is_word_byte c
is_in class.Digit c = is_ascii_digit c
is_in class.Number c = is_ascii_digit c || (c == 46)
is_in class.Literal c = is_literal_byte c
is_in class.Line c = not (c == 10)

-- all bytes of this class are ASCII
abbrev pub is_ascii : the_class.Class → Bool
is_ascii class.Line = false
is_ascii k = true

-- whether the byte at place k is this one
abbrev pub has_at : Text → ℕ → ℕ → Bool
has_at s k c = starts_so (drop k s)
  where
    starts_so : Text → Bool
    starts_so [] = false
    starts_so (d ∷ rest) = d == c

-- ---- words: a letter or _, then letters, digits and _, at most 32 in all

abbrev pub word_token : Text → Option Keyword → Token
word_token w (Some k) = token.Keyword k
word_token w None = token.Name w

-- the word at the front of s, which is cut to 32 bytes, since no word is longer
abbrev pub word_of : Text → Piece
word_of s =
    let n = prefix_len (is_in class.Name) s in
    piece.Token (word_token (take n s) (keyword_named (take n s))) n

-- ---- numbers: digits, or two to four of these joined by dots

abbrev pub digits_in : Text → ℕ
digits_in s = prefix_len (is_in class.Digit) s

-- the length of a dot with digits after it, which continues a number
abbrev pub part_len : Text → ℕ
part_len [] = 0
part_len (c ∷ rest) = if (c == 46) && not (digits_in rest == 0) then 1 + digits_in rest else 0

-- the first n bytes and one more part
abbrev pub with_part : Text → ℕ → ℕ
with_part s n = n + part_len (drop n s)

abbrev pub number_len : Text → ℕ
number_len s = with_part s (with_part s (with_part s (digits_in s)))

abbrev pub number_at : Text → Piece
number_at s =
    let n = number_len s in
    piece.Token (if n == digits_in s then token.Number (take n s) else token.Version (take n s)) n

-- ---- literals: up to 64 bytes between quotation marks

-- after the opening quotation mark
abbrev pub text_at : Text → Option Piece
text_at rest =
    let s = take 64 rest in
    let n = prefix_len (is_in class.Literal) s in
    if has_at rest n 34 then Some (piece.Token (token.Text (take n s)) (n + 2)) else None

-- ---- marks and comparisons

abbrev pub mark : Token → Option Piece
mark t = Some (piece.Token t 1)

abbrev pub mark_at : ℕ → Option Piece
mark_at c =
    if c == 59 then mark token.Semicolon
    else if c == 44 then mark token.Comma
    else if c == 91 then mark token.OpenBracket
    else if c == 93 then mark token.CloseBracket
    else if c == 40 then mark token.Open
    else if c == 41 then mark token.Close else None

abbrev pub longer : Token → Option Piece
longer t = Some (piece.Token t 2)

-- a comparison by its first character, followed by an equals sign or not
abbrev pub comparison_at : ℕ → Bool → Option Piece
comparison_at c true =
    if c == 60 then longer (token.Comparison Le)
    else if c == 62 then longer (token.Comparison Ge)
    else if c == 61 then longer (token.Comparison Eq)
    else if c == 33 then longer (token.Comparison Ne) else None
comparison_at c false =
    if c == 60 then mark (token.Comparison Lt)
    else if c == 62 then mark (token.Comparison Gt) else None

abbrev pub or_else : Option Piece → Option Piece → Option Piece
or_else (Some p) other = Some p
or_else None other = other

abbrev pub symbol_at : ℕ → Bool → Option Piece
symbol_at c equals = or_else (mark_at c) (comparison_at c equals)

-- ---- the front of a text

-- the piece at the front of s, which is c followed by rest; None if no token begins there
abbrev pub piece_of : Text → ℕ → Text → Option Piece
piece_of s c rest =
    if (c == 32) || (c == 9) then Some (piece.Blank 1)
    else if c == 35 then Some (piece.Blank (1 + prefix_len (is_in class.Line) rest))
    else if c == 10 then Some (piece.LineEnd 1)
    else if (c == 13) && has_at rest 0 10 then Some (piece.LineEnd 2)
    else if is_letter c then Some (word_of (take 32 s))
    else if is_ascii_digit c then Some (number_at s)
    else if c == 34 then text_at rest
    else symbol_at c (has_at rest 0 61)
