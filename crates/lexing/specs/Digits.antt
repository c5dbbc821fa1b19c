-- Numbers in a radix up to 36.
use Rattle.std.specs.Prelude.{ℕ, ◌^◌, List, Option, Some, None, nat_lt, if◌then◌else◌}
use Rattle.std.specs.Str.Parse.{digits_value}

-- a number, if it fits in 64 bits
abbrev pub number_if_small : ℕ → Option ℕ
number_if_small n = if nat_lt n (2 ^ 64) then Some n else None

-- the number with these digits in a radix, if it fits in 64 bits
abbrev pub magnitude : ℕ → List ℕ → Option ℕ
magnitude radix digits = number_if_small (digits_value radix digits)
