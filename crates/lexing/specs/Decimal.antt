-- Decimal numbers: one ASCII digit or more, with no sign. Leading zeros are allowed.
use Rattle.std.specs.Prelude.{ℕ, ◌^◌, List, length, Option, Some, None, option_and_then}
use Rattle.std.specs.Prelude.{Bool, ◌&&◌, nat_lt, nat_le, if◌then◌else◌}
use Rattle.std.specs.Str.{all_ascii_digits}
use Rattle.std.specs.Str.Parse.{digits_value}

-- a number that fits in 64 bits
abbrev pub is_long_number : List ℕ → Bool
is_long_number text =
    all_ascii_digits text && nat_lt 0 (length text) && nat_lt (digits_value 10 text) (2 ^ 64)

abbrev pub long_number : List ℕ → Option ℕ
long_number text = if is_long_number text then Some (digits_value 10 text) else None

abbrev pub within : ℕ → ℕ → ℕ → Option ℕ
within from to n = if nat_le from n && nat_le n to then Some n else None

-- a number from `from` to `to`
abbrev pub decimal_within : ℕ → ℕ → List ℕ → Option ℕ
decimal_within from to text = option_and_then (within from to) (long_number text)
