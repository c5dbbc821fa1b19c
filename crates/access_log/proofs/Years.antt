-- A day since 1970 is in a year that isn't negative.
use Rattle.std.proofs.Common.{◌≡◌, ℕ, ◌<◌, ℤ, pos, ◌<ℤ◌, ◌≤ℤ◌, arith}
use Rattle.std.proofs.lemmas.Int.{by_lt_z}
use Rattle.jiff_core.specs.Calendar.{IsCivilDate, day_count, days_from_civil}
use Rattle.jiff_core.proofs.CalendarLemmas.{day_count-epoch, day_count-lt_year}
use Rattle.jiff_core.proofs.CalendarLemmas.{days_from_civil-day_count}
use Rattle.jiff_core.proofs.SignedLemmas.{signed_arith}

early : (y : ℤ) (m d : ℕ) → IsCivilDate y m d → y <ℤ pos 0 → day_count y m d < 4_371_953
early y m d civil before =
    omega (
      arith,
      day_count-epoch,
      day_count-lt_year y m d (pos 1970) 1 1 civil (omega arith) (omega (arith, signed_arith)),
    )

pub not_before_0 : (y : ℤ) (m d n : ℕ) → IsCivilDate y m d → days_from_civil y m d ≡ pos n
    → pos 0 ≤ℤ y
not_before_0 y m d n civil day =
    by_lt_z y (pos 0)
    (λ before. absurd
    (omega (arith, signed_arith, days_from_civil-day_count y m d, early y m d civil before)))
    (λ at. omega (arith, signed_arith))
