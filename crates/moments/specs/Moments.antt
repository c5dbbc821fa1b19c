-- How an operator names moments: by how long ago, such as `10m`, or by a time by RFC 3339.
use Rattle.std.specs.Prelude.{◌≡◌, ℕ, ◌*◌, List, length, ◌&&◌, ◌==◌, nat_lt}
use Rattle.std.specs.Prelude.{Option, Some, None, option_map, if◌then◌else◌, Bool}
use Rattle.std.specs.List.{after_first, before_first, position_or_len}
use Rattle.std.specs.Option.{option_or}
use Rattle.std.specs.Str.{byte}
use Rattle.lexing.specs.Decimal.{decimal_within}
use Rattle.moments.specs.Rfc3339.{time_in}
use Rattle.moments.specs.declared.moment.NamedTime.{NamedTime}
use Rattle.moments.specs.declared.moment.NamedTime.TheVariants.{Ago, At}

abbrev pub is_at : ℕ → ℕ → Bool
is_at letter b = b == letter

-- the letter occurs only at the end of the text
abbrev pub ends_first : ℕ → List ℕ → Bool
ends_first letter text =
    nat_lt (position_or_len (is_at letter) text) (length text)
    && (length (after_first (is_at letter) text) == 0)

-- a number up to 99999 followed by this letter, in units of `unit` seconds
abbrev pub seconds_by : ℕ → ℕ → List ℕ → Option ℕ
seconds_by letter unit text =
    if ends_first letter text
    then option_map (λ n. n * unit) (decimal_within 0 99999 (before_first (is_at letter) text))
    else None

-- in seconds, minutes, hours or days
abbrev pub seconds_ago : List ℕ → Option ℕ
seconds_ago text =
    option_or (seconds_by (byte "s") 1 text) (option_or (seconds_by (byte "m") 60 text)
    (option_or (seconds_by (byte "h") 3600 text) (seconds_by (byte "d") 86400 text)))

-- the text names this moment
abbrev pub Names : List ℕ → NamedTime → Type 0
Names text (Ago seconds) = seconds_ago text ≡ Some seconds
Names text (At time) = (seconds_ago text ≡ None) × (time_in text ≡ Some time.nanosecond)

abbrev pub NamesNone : List ℕ → Type 0
NamesNone text = (seconds_ago text ≡ None) × (time_in text ≡ None)
