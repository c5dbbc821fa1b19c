-- The tokens of a line. A comment goes from ; to the line's end, and blanks are spaces and tabs.
use Rattle.std.specs.Prelude.{ℕ, ◌+◌, List, [], ◌∷◌, length, drop}
use Rattle.std.specs.Prelude.{Option, Some, None, Bool, false, ◌&&◌, ◌||◌, not}
use Rattle.std.specs.Prelude.{nat_le, nat_lt, ◌==◌, if◌then◌else◌, slice_index_or}
use Rattle.std.specs.List.{list_all, prefix_len}
use Rattle.std.specs.Char.{digit_value}
use Rattle.lexing.specs.Digits.{magnitude}
use Rattle.lexing.specs.Letter.{is_letter, is_word_byte}
use Rattle.bpf_insn.specs.Program.{◌>>=◌}
use Rattle.bpf_text.specs.declared.token.Sign.{Sign}
use Rattle.bpf_text.specs.declared.token.Sign.TheVariants.{Absent, Minus, Plus}
use Rattle.bpf_text.specs.declared.token.AsmToken.{AsmToken}
use Rattle.bpf_text.specs.declared.token.AsmToken.TheVariants.{Word, Number, Comma, Colon}
use Rattle.bpf_text.specs.declared.token.AsmToken.TheVariants.{Open, Close}

-- a name: a word's bytes
abbrev pub Name : Type 0
Name = List ℕ

abbrev pub is_blank : ℕ → Bool
is_blank c = (c == 32) || (c == 9)

abbrev pub mark_of : ℕ → Option (AsmToken Name)
mark_of c =
    if c == 44 then Some Comma
    else if c == 58 then Some Colon
    else if c == 91 then Some Open
    else if c == 93 then Some Close else None

abbrev pub is_mark : ℕ → Bool
is_mark c = ((c == 44) || (c == 58)) || ((c == 91) || (c == 93))

-- ---- the pieces of a line

-- a letter, a digit or _ continues the piece before it
abbrev pub word_goes_on : List ℕ → Bool
word_goes_on [] = false
word_goes_on (c ∷ rest) = is_word_byte c

abbrev pub onto_piece : ℕ → List (List ℕ) → List (List ℕ)
onto_piece c [] = (c ∷ []) ∷ []
onto_piece c (p ∷ ps) = (c ∷ p) ∷ ps

-- a mark, or any other character with the letters, digits and _ that follow it
abbrev pub pieces : List ℕ → List (List ℕ)
pieces [] = []
pieces (c ∷ rest) =
    if c == 59 then []
    else if is_blank c then pieces rest
    else if is_mark c || not (word_goes_on rest) then (c ∷ []) ∷ pieces rest
    else onto_piece c (pieces rest)

-- the length of the piece that begins with c, which isn't a blank
abbrev pub piece_len : ℕ → List ℕ → ℕ
piece_len c rest = if is_mark c then 1 else 1 + prefix_len is_word_byte rest

-- ---- the token of a piece

abbrev pub is_numeral : ℕ → List ℕ → Bool
is_numeral radix digits =
    not (length digits == 0) && list_all (λ c. nat_lt (digit_value c) radix) digits

abbrev pub numeral : Sign → ℕ → List ℕ → Option (AsmToken Name)
numeral sign radix digits =
    if is_numeral radix digits
    then Some (Number (record { sign = sign; magnitude = magnitude radix digits })) else None

-- 0x and 1 to 16 hexadecimal digits, or decimal digits
abbrev pub unsigned_number : List ℕ → Option (AsmToken Name)
unsigned_number piece =
    if (slice_index_or piece 0 0 == 48) && (slice_index_or piece 1 0 == 120)
    then (if nat_le (length piece) 18 then numeral Absent 16 (drop 2 piece) else None)
    else numeral Absent 10 piece

-- a word has at most 32 characters
abbrev pub token_of : List ℕ → Option (AsmToken Name)
token_of [] = None
token_of (c ∷ rest) =
    if is_mark c then mark_of c
    else if is_letter c
    then (if nat_le (length (c ∷ rest)) 32 then Some (Word (c ∷ rest)) else None)
    else if c == 45 then numeral Minus 10 rest
    else if c == 43 then numeral Plus 10 rest
    else unsigned_number (c ∷ rest)

abbrev pub tokens_in : List (List ℕ) → Option (List (AsmToken Name))
tokens_in [] = Some []
tokens_in (p ∷ ps) = token_of p >>= λ t. tokens_in ps >>= λ ts. Some (t ∷ ts)

-- the tokens of a line; None if one of its pieces isn't a token
abbrev pub tokens_of : List ℕ → Option (List (AsmToken Name))
tokens_of line = tokens_in (pieces line)
