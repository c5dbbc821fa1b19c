-- The time that an operator's moment names, by a clock, as the lines of a log have it.
use Rattle.std.specs.Prelude.{◌≡◌, ◌⊎◌, ℕ, ℤ, pos, neg_ℤ, ◌-ℤ◌, List, Some, false}
use Rattle.std.specs.Str.{byte}
use Rattle.jiff_core.specs.Timestamp.{nanos_of_seconds}
use Rattle.jiff_core.specs.declared.timestamp.Timestamp.{Timestamp}
use Rattle.jiff_fmt.specs.Printer.{IsTimestampText, options}
use Rattle.jiff_fmt.specs.declared.temporal.printer.DateTimePrinter.{DateTimePrinter}
use Rattle.moments.specs.declared.moment.NamedTime.{NamedTime}
use Rattle.moments.specs.declared.moment.NamedTime.TheVariants.{Ago, At}

-- the nanoseconds of a time that is this many seconds before `now`
abbrev pub nanos_before : (now : Timestamp) → (seconds : ℕ) → ℤ
nanos_before now seconds = now.nanosecond -ℤ nanos_of_seconds (pos seconds)

-- it is this many seconds before `now`, or the first time that there is
abbrev pub IsBefore : (now : Timestamp) → (seconds : ℕ) → (time : Timestamp) → Type 0
IsBefore now seconds time =
    (time.nanosecond ≡ nanos_before now seconds)
    ⊎ (time.nanosecond ≡ neg_ℤ (pos 377705023201000000000))

abbrev pub IsTimeOf : (now : Timestamp) → NamedTime → (time : Timestamp) → Type 0
IsTimeOf now (At named) time = time ≡ named
IsTimeOf now (Ago seconds) time = IsBefore now seconds time

-- 2026-11-25T08:30:00.000Z: RFC 3339 with milliseconds
pub record IsLogTime (time : Timestamp) (text : List ℕ) : Type 0 where
  pub printer : DateTimePrinter
  pub form : options printer ≡ (false, byte "T", Some 3)
  pub text_is : IsTimestampText printer time text

-- the text of the moment's time, if it is `now`
pub record IsTextOf (now : Timestamp) (moment : NamedTime) (text : List ℕ) : Type 0 where
  pub time : Timestamp
  pub time_is : IsTimeOf now moment time
  pub text_is : IsLogTime time text
