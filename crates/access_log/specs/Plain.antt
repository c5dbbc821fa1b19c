-- Texts without escapes in a line: ASCII without controls, quotes and backslashes.
use Rattle.std.specs.Prelude.{◌≡◌, ℕ, ◌<◌, ◌≤◌, List, [], ◌∷◌, ◌++◌, get_or, nat_le, nat_lt}
use Rattle.std.specs.Prelude.{Bool, true, false, cond, not, ◌||◌, ◌==◌}
use Rattle.std.specs.Str.{byte}

-- a byte that may need an escape
abbrev pub is_escaped : ℕ → Bool
is_escaped b = ((b == byte "\"") || (b == byte "\\")) || nat_lt b 32 || nat_le 127 b

-- a text without characters to escape
abbrev pub is_plain_text : List ℕ → Bool
is_plain_text [] = true
is_plain_text (b ∷ bytes) = cond (is_escaped b) false (is_plain_text bytes)

-- the bytes of a text from i up to j need no escape
abbrev pub ArePlainBetween : List ℕ → ℕ → ℕ → Type 0
ArePlainBetween text i j = (k : ℕ) → i ≤ k → k < j → not (is_escaped (get_or text k 0)) ≡ true

-- a comma, a name that needs no escape, and a colon
abbrev pub named : List ℕ → List ℕ
named name = (44 ∷ 34 ∷ []) ++ name ++ (34 ∷ 58 ∷ [])
