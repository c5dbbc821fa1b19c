-- The texts that a rule compares attributes with: at most 64 bytes of printable ASCII, without
-- quotation marks and backslashes.
use Rattle.std.specs.Prelude.{ℕ, ◌≤◌, Bool, not, nat_le, ◌==◌, ◌&&◌, ◌||◌, IsTrue}
use Rattle.std.specs.Prelude.{List, length}
use Rattle.std.specs.List.{list_all}

abbrev pub is_printable : ℕ → Bool
is_printable c = nat_le 32 c && nat_le c 126

abbrev pub is_literal_byte : ℕ → Bool
is_literal_byte c = is_printable c && not ((c == 34) || (c == 92))

-- a text that a rule compares with: at most 64 bytes of printable ASCII, without quotation marks
-- and backslashes
pub record IsLiteral (text : List ℕ) : Type 0 where
  pub bytes : IsTrue (list_all is_literal_byte text)
  pub short : length text ≤ 64

abbrev pub is_literal : List ℕ → Bool
is_literal text = list_all is_literal_byte text && nat_le (length text) 64
