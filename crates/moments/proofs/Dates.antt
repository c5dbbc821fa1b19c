-- The date of a day is that of the calendar: the only date with the day's number.
use Rattle.std.proofs.Common.{◌≡◌, ◌∙◌, refl, sym, ℕ, zero, suc, ◌+◌, ◌<◌, ◌≤◌, inl, inr, arith}
use Rattle.std.proofs.Common.{Bool, true, false, if◌then◌else◌, pos, ◌-ℤ◌}
use Rattle.std.proofs.Common.{nat_lt, subst}
use Rattle.std.proofs.lemmas.Bool.{cases_order}
use Rattle.std.proofs.lemmas.Int.{ints}
use Rattle.std.specs.Int.{IsInRange}
use Rattle.jiff_core.proofs.DateLemmas.{days_from_civil-day, days_from_civil-max}
use Rattle.jiff_core.proofs.DateLemmas.{days_from_civil-next_month, days_from_civil-next_year}
use Rattle.jiff_core.proofs.DateLemmas.{epoch_day_injective}
use Rattle.jiff_core.proofs.CalendarLemmas.{days_in_month_bounds}
use Rattle.jiff_core.specs.Calendar.{IsCivilDate, IsYear, day_count, days_from_civil}
use Rattle.jiff_core.specs.Calendar.{days_in_month}
use Rattle.jiff_core.specs.Date.{epoch_day}
use Rattle.jiff_core.specs.declared.civil.date.Date.{Date}
use Rattle.moments.specs.Calendar.{date_of, next_day}
use Rattle.moments.specs.declared.calendar.CivilDate.{CivilDate}

-- a date of the calendar with this number
record HasNumber (day : ℕ) (date : CivilDate) : Type 0 where
  civil : IsCivilDate (pos date.year) date.month date.day
  number : days_from_civil (pos date.year) date.month date.day ≡ pos day

-- ---- the first

no_difference : (n : ℕ) → pos n -ℤ pos n ≡ pos 0
no_difference n = omega (arith, ints)

first_number : days_from_civil (pos 1970) 1 1 ≡ pos 0
unfolding days_from_civil
first_number = no_difference (day_count (pos 1970) 1 1)

first_date : HasNumber 0 (record { year = 1970; month = 1; day = 1 })
first_date = record {
  civil = (
    (omega (arith, ints), omega (arith, ints)),
    (omega arith, omega arith),
    (omega arith, omega arith),
  );
  number = first_number;
}

-- ---- the next

either : {A : Type 0} (b : Bool) (x y : A) (P : A → Type 0) → (b ≡ true → P x)
    → (b ≡ false → P y) → P (if b then x else y)
either {A} true x y P one other = one refl
either {A} false x y P one other = other refl

is_less : (m n : ℕ) → nat_lt m n ≡ true → m < n
is_less m n holds = grind arith

is_not_less : (m n : ℕ) → nat_lt m n ≡ false → n ≤ m
is_not_less m n fails = grind arith

-- a year whose last day isn't the last of all is before 9999
ends_early : (year day : ℕ) → year ≤ 9999 → days_from_civil (pos year) 12 31 ≡ pos day
    → day < 2932896 → year < 9999
ends_early year day within number early = elim (cases_order year 9999) [
  | inl same ↦ absurd (omega (
    arith,
    ints,
    early,
    days_from_civil-max,
    subst (λ (y : ℕ). days_from_civil (pos y) 12 31 ≡ pos day) same number,
  ))
  | inr (inl less) ↦ less
  | inr (inr more) ↦ absurd (omega (arith, within, more))
]

-- the year, month and day of a date with a number
module _ (day y m d : ℕ) (early : day < 2932896) (year_in : IsYear (pos y))
    (month_in : IsInRange 1 12 m) (day_in : IsInRange 1 (days_in_month (pos y) m) d)
    (number : days_from_civil (pos y) m d ≡ pos day) where
  same_month : d < days_in_month (pos y) m
      → HasNumber (suc day) (record { year = y; month = m; day = d + 1 })
  same_month less = record {
    civil = (year_in, month_in, (omega arith, omega (arith, less)));
    number = omega (
      arith,
      ints,
      number,
      days_from_civil-day (pos y) m d (d + 1) day_in.0 (omega arith),
    );
  }

  last_day : days_in_month (pos y) m ≤ d → d ≡ days_in_month (pos y) m
  last_day last = omega (arith, last, day_in.1)

  month_later : days_in_month (pos y) m ≤ d → m < 12
      → HasNumber (suc day) (record { year = y; month = m + 1; day = 1 })
  month_later last less = record {
    civil = (
      year_in,
      (omega arith, omega (arith, less)),
      (omega arith, omega (arith, days_in_month_bounds (pos y) (m + 1))),
    );
    number = omega (
      arith,
      ints,
      number,
      days_from_civil-next_month (pos y) m d month_in.0 (last_day last),
    );
  }

  december : 12 ≤ m → m ≡ 12
  december more = omega (arith, more, month_in.1)

  last_number : days_in_month (pos y) m ≤ d → 12 ≤ m → days_from_civil (pos y) 12 31 ≡ pos day
  last_number last more =
      let date : days_from_civil (pos y) m (days_in_month (pos y) m) ≡ pos day =
      subst (λ (n : ℕ). days_from_civil (pos y) m n ≡ pos day) (last_day last) number in
      subst (λ (n : ℕ). days_from_civil (pos y) n (days_in_month (pos y) n) ≡ pos day)
      (december more) date

  year_later : days_in_month (pos y) m ≤ d → 12 ≤ m
      → HasNumber (suc day) (record { year = y + 1; month = 1; day = 1 })
  year_later last more =
      let less : y < 9999 =
      ends_early y day (omega (arith, ints, year_in.1)) (last_number last more) early in
      record {
        civil = (
          (omega (arith, ints), omega (arith, ints, less)),
          (omega arith, omega arith),
          (omega arith, omega arith),
        );
        number = omega (
          arith,
          ints,
          last_number last more,
          days_from_civil-next_year (pos y) (pos (y + 1)) (omega (arith, ints))
              (omega (arith, ints)),
        );
      }

  later : HasNumber (suc day) (next_day (record { year = y; month = m; day = d }))
  later =
      either (nat_lt d (days_in_month (pos y) m)) _ _ (HasNumber (suc day))
      (λ holds. same_month (is_less d (days_in_month (pos y) m) holds))
      (λ fails. let last : days_in_month (pos y) m ≤ d =
      is_not_less d (days_in_month (pos y) m) fails in
      either (nat_lt m 12) _ _ (HasNumber (suc day))
      (λ holds. month_later last (is_less m 12 holds))
      (λ other. year_later last (is_not_less m 12 other)))

-- ---- all

has_number : (day : ℕ) → day ≤ 2932896 → HasNumber day (date_of day)
unfolding date_of
has_number zero within = first_date
has_number (suc day) within =
    let before : HasNumber day (date_of day) = has_number day (omega (arith, within)) in
    later day (date_of day).year (date_of day).month (date_of day).day (omega (arith, within))
    before.civil.0 before.civil.1 before.civil.2 before.number

-- the date of a day as the calendar's type
abbrev as_date : (date : CivilDate) → IsCivilDate (pos date.year) date.month date.day → Date
as_date date civil = record {
  year = pos date.year;
  month = date.month;
  day = date.day;
  year_in = civil.0;
  month_in = civil.1;
  day_in = civil.2;
}

pub is_date : (day : ℕ) (found : Date) → day ≤ 2932896 → epoch_day found ≡ pos day
    → (found.year ≡ pos (date_of day).year) × (found.month ≡ (date_of day).month)
    × (found.day ≡ (date_of day).day)
is_date day found within is =
    let right : HasNumber day (date_of day) = has_number day within in
    epoch_day_injective found (as_date (date_of day) right.civil) (is ∙ sym right.number)

pub same_date : (year month day : ℕ) (date : CivilDate) → year ≡ date.year → month ≡ date.month
    → day ≡ date.day → (record { year = year; month = month; day = day }) ≡ date
same_date year month day date first second third = grind (arith, first, second, third)
