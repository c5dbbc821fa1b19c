-- The meaning of a version text: one to four decimal numbers from 0 to 4294967295, joined by single
-- dots. Leading zeros are allowed, and missing numbers are 0.
use Rattle.std.specs.Prelude.{ℕ, ◌-◌, ◌^◌, List, ◌++◌, length, map, replicate}
use Rattle.std.specs.Prelude.{Bool, ◌&&◌, nat_lt, nat_le, ◌==◌, Option, Some, None, if◌then◌else◌}
use Rattle.std.specs.List.{slice_split, list_all}
use Rattle.std.specs.Str.{all_ascii_digits, byte}
use Rattle.std.specs.Str.Parse.{digits_value}

-- one or more ASCII digits, whose number fits 32 bits
abbrev pub is_decimal_number : List ℕ → Bool
is_decimal_number part =
    all_ascii_digits part && nat_lt 0 (length part) && nat_lt (digits_value 10 part) (2 ^ 32)

abbrev pub decimal_number : List ℕ → Option ℕ
decimal_number part = if is_decimal_number part then Some (digits_value 10 part) else None

-- the parts between the dots
abbrev pub parts_of : List ℕ → List (List ℕ)
parts_of text = slice_split (λ b. b == byte ".") text

abbrev pub is_version : List (List ℕ) → Bool
is_version parts = nat_le (length parts) 4 && list_all is_decimal_number parts

-- the four numbers of the parts
abbrev pub numbers_of : List (List ℕ) → List ℕ
numbers_of parts = map (digits_value 10) parts ++ replicate (4 - length parts) 0

-- the four numbers of a version text, or none
abbrev pub version_of : List ℕ → Option (List ℕ)
version_of text = if is_version (parts_of text) then Some (numbers_of (parts_of text)) else None
