-- The moment that the options name, as a Unix second.
use Rattle.std.specs.Prelude.{ℕ, ◌+◌, ◌*◌, ℤ, pos, List, Option, Some, None}
use Rattle.std.specs.Prelude.{option_map, codes}
use Rattle.std.specs.Option.{option_or}
use Rattle.attrs.specs.Moment.{first_second, last_second}
use Rattle.clap.specs.Words.{Row, Text, first_of}
use Rattle.lexing.specs.Decimal.{decimal_within}
use Rattle.moments.specs.Rfc3339.{second_of_time}
use Rattle.cli_base.specs.Day.{day_in}

-- ---- texts

-- a second as a decimal number, up to the last of the year 9999
abbrev pub second_of_digits : Text → Option ℤ
second_of_digits text = option_map (λ second. pos second) (decimal_within 0 last_second text)

-- the second that a text names: a number, or a time by RFC 3339
abbrev pub second_in : Text → Option ℤ
second_in text = option_or (second_of_digits text) (second_of_time text)

-- the day of an option, and day 0 without it
abbrev pub day_by : Option Text → Option ℕ
day_by None = Some 0
day_by (Some text) = day_in 2919382 text

-- ---- options

-- the second of `--at`, without `--today`; without `--at`, the first second of the day
abbrev pub moment_by : (at today : Option Text) → Option ℤ
moment_by None today =
    option_map (λ day. pos (first_second + 86400 * day)) (day_by today)
moment_by (Some text) None = second_in text
moment_by (Some text) (Some day) = None

abbrev pub moment_in : List Row → Option ℤ
moment_in rows = moment_by (first_of (codes "at") rows) (first_of (codes "today") rows)

-- the second of `--at` alone, and no second without it
abbrev pub second_by : (at : Option Text) → Option (Option ℤ)
second_by None = Some None
second_by (Some text) = option_map Some (second_in text)
