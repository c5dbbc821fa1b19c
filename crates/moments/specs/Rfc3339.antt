-- Times by RFC 3339, section 5.6 (`date-time`), such as `2026-12-01T04:00:00.5+01:00`.
use Rattle.std.specs.Prelude.{ℕ, ℤ, pos, List, [], ◌∷◌, codes, length, nat_le}
use Rattle.std.specs.Prelude.{Bool, false, ◌&&◌, ◌||◌, ◌==◌, if◌then◌else◌}
use Rattle.std.specs.Prelude.{Option, Some, None, option_map, unwrap_or}
use Rattle.std.specs.Char.{is_ascii_digit, to_ascii_uppercase}
use Rattle.std.specs.Int.{int_div_euclid}
use Rattle.std.specs.Result.{result_ok}
use Rattle.jiff_fmt.specs.Temporal.{parse_timestamp}

-- ---- forms

-- a digit of a form allows any digit up to it, and a capital letter also the small one
abbrev pub form_allows : (form byte : ℕ) → Bool
form_allows form byte =
    if is_ascii_digit form then is_ascii_digit byte && nat_le byte form
    else form == to_ascii_uppercase byte

-- what follows this form at the start of a text
abbrev pub after_form : (form text : List ℕ) → Option (List ℕ)
after_form [] text = Some text
after_form (f ∷ form) [] = None
after_form (f ∷ form) (b ∷ text) = if form_allows f b then after_form form text else None

-- nothing follows
abbrev pub is_whole : Option (List ℕ) → Bool
is_whole (Some rest) = length rest == 0
is_whole None = false

-- the whole text has this form
abbrev pub has_form : (form text : List ℕ) → Bool
has_form form text = is_whole (after_form form text)

-- ---- `date-time`

-- `time-offset`: the hours are at most 23
abbrev pub is_offset : List ℕ → Bool
is_offset text =
    has_form (codes "Z") text || has_form (codes "+19:59") text || has_form (codes "+23:59") text
    || has_form (codes "-19:59") text || has_form (codes "-23:59") text

abbrev pub after_digits : List ℕ → List ℕ
after_digits [] = []
after_digits (b ∷ text) = if is_ascii_digit b then after_digits text else b ∷ text

-- the text after `time-secfrac`, if it begins with one
abbrev pub after_fraction : List ℕ → List ℕ
after_fraction text = unwrap_or (option_map after_digits (after_form (codes ".9") text)) text

-- what follows the second ends the time
abbrev pub ends_time : Option (List ℕ) → Bool
ends_time (Some rest) = is_offset (after_fraction rest)
ends_time None = false

-- the text is a `date-time`, if the numbers before its offset are in their ranges
abbrev pub is_date_time : List ℕ → Bool
is_date_time text = ends_time (after_form (codes "9999-99-99T99:99:99") text)

-- ---- times

-- the nanosecond since 1970, if the parser has such a time, whose fraction has at most nine digits
abbrev pub time_in : List ℕ → Option ℤ
time_in text = if is_date_time text then result_ok (parse_timestamp text) else None

-- the second
abbrev pub second_of_time : List ℕ → Option ℤ
second_of_time text = option_map (λ n. int_div_euclid n (pos 1_000_000_000)) (time_in text)
