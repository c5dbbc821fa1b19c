-- Days of the Gregorian calendar in UTC, and minutes, both counted from 1970 on.
use Rattle.std.specs.Prelude.{ℕ, zero, suc, ◌+◌, ◌/◌, List, ℤ, pos, negsuc, nat_lt}
use Rattle.std.specs.Prelude.{Option, Some, None, option_and_then, if◌then◌else◌}
use Rattle.jiff_core.specs.Calendar.{days_in_month}
use Rattle.moments.specs.Rfc3339.{second_of_time}
use Rattle.moments.specs.declared.calendar.CivilDate.{CivilDate}

-- ---- dates

-- the first day of the next month
abbrev pub next_month : CivilDate → CivilDate
next_month date =
    if nat_lt date.month 12 then record { year = date.year; month = date.month + 1; day = 1 }
    else record { year = date.year + 1; month = 1; day = 1 }

-- the next day
abbrev pub next_day : CivilDate → CivilDate
next_day date =
    if nat_lt date.day (days_in_month (pos date.year) date.month)
    then record { year = date.year; month = date.month; day = date.day + 1 }
    else next_month date

-- the date `day` days after 1970-01-01
unfoldable pub date_of : ℕ → CivilDate
date_of zero = record { year = 1970; month = 1; day = 1 }
date_of (suc day) = next_day (date_of day)

-- ---- minutes

-- the minute of a second, both since 1970, unless it is before 1970
abbrev pub minute_of_second : ℤ → Option ℕ
minute_of_second (pos second) = Some (second / 60)
minute_of_second (negsuc n) = None

-- the minute of a time by RFC 3339
abbrev pub minute_in : List ℕ → Option ℕ
minute_in text = option_and_then minute_of_second (second_of_time text)
