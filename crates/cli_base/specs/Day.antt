-- Days counted from 2007-01-01. A text names one by its number, or by a date: four, two and two
-- digits, with hyphens between them.
use Rattle.std.specs.Prelude.{ℕ, ◌-◌, ◌==◌, ◌&&◌, nat_le, List, length, Option, None, Some}
use Rattle.std.specs.Prelude.{option_and_then, if◌then◌else◌, pos, ◌+ℤ◌, unsigned_abs, Bool}
use Rattle.std.specs.Prelude.{nat_lt}
use Rattle.std.specs.List.{position_or_len, before_first, after_first}
use Rattle.std.specs.Str.{byte}
use Rattle.jiff_core.specs.Calendar.{days_from_civil, days_in_month}
use Rattle.lexing.specs.Decimal.{decimal_within, within}

-- the calendar's day of a date, counted from 1 January of the year -9999
abbrev pub calendar_day : (year month day : ℕ) → ℕ
calendar_day year month day = unsigned_abs (days_from_civil (pos year) month day +ℤ pos 4371587)

-- 2007-01-01 in that count
abbrev pub first_day : ℕ
first_day = 4385101

abbrev pub from_first : ℕ → Option ℕ
from_first day = if nat_le first_day day then Some (day - first_day) else None

-- the day of a date, if its month has that day and it isn't before 2007
abbrev pub day_of_date : (year month day : ℕ) → Option ℕ
day_of_date year month day =
    if nat_le day (days_in_month (pos year) month) then from_first (calendar_day year month day)
    else None

abbrev pub have_widths : (year month day : List ℕ) → Bool
have_widths year month day = (length year == 4) && (length month == 2) && (length day == 2)

-- the day of a date's digits
abbrev pub day_of_parts : (year month day : List ℕ) → Option ℕ
day_of_parts year month day =
    if have_widths year month day then
    option_and_then (λ y. option_and_then (λ m. option_and_then (λ d. day_of_date y m d)
    (decimal_within 1 31 day)) (decimal_within 1 12 month)) (decimal_within 0 9999 year)
    else None

abbrev pub is_hyphen : ℕ → Bool
is_hyphen b = b == byte "-"

abbrev pub has_hyphen : List ℕ → Bool
has_hyphen text = nat_lt (position_or_len is_hyphen text) (length text)

abbrev pub dated : (year rest : List ℕ) → Option ℕ
dated year rest =
    if has_hyphen rest
    then day_of_parts year (before_first is_hyphen rest) (after_first is_hyphen rest) else None

abbrev pub numbered : (most : ℕ) → List ℕ → Option ℕ
numbered most text = decimal_within 0 most text

-- the day that a text names, if at most `most`
abbrev pub day_in : (most : ℕ) → List ℕ → Option ℕ
day_in most text =
    if has_hyphen text
    then option_and_then (within 0 most)
    (dated (before_first is_hyphen text) (after_first is_hyphen text))
    else numbered most text
