-- A moment is a Unix second. Days and seconds are counted from 2007-01-01 UTC, as Omaha's are.
use Rattle.std.specs.Prelude.{ℕ, ◌-◌, ◌/◌, ◌%◌, min, max, ℤ, pos, negsuc}

-- 2007-01-01, 00:00:00
abbrev pub first_second : ℕ
first_second = 1167609600

-- 9999-12-31, 23:59:59
abbrev pub last_second : ℕ
last_second = 253402300799

-- an earlier moment counts as the first of these seconds, a later one as the last
abbrev pub clamped : ℤ → ℕ
clamped (pos second) = min (max second first_second) last_second
clamped (negsuc second) = first_second

abbrev pub elapsed : ℤ → ℕ
elapsed moment = clamped moment - first_second

abbrev pub elapsed_days : ℤ → ℕ
elapsed_days moment = elapsed moment / 86400

abbrev pub elapsed_seconds : ℤ → ℕ
elapsed_seconds moment = elapsed moment % 86400
