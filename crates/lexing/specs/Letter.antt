-- The ASCII bytes of words.
use Rattle.std.specs.Prelude.{ℕ, Bool, ◌==◌, ◌||◌}
use Rattle.std.specs.Char.{is_ascii_alphabetic, is_ascii_digit}

-- a letter or `_`
abbrev pub is_letter : ℕ → Bool
is_letter c = is_ascii_alphabetic c || (c == 95)

-- an ASCII letter, digit or `_`
abbrev pub is_word_byte : ℕ → Bool
is_word_byte c = is_letter c || is_ascii_digit c
