use Rattle.std.proofs.Common.{◌≡◌, ◌/◌, pos, ◌≤ℤ◌, unsigned_abs, to_z, of_z, arith}
use Rattle.std.specs.Int.{w16}
use Rattle.std.proofs.lemmas.Int.{ints}
use Rattle.jiff_core.specs.Calendar.{days_from_civil}
use Rattle.access_log.proofs.Years.{not_before_0}
use Rattle.access_log.proofs.utc.Utc.of_unix.Goals as goal

pub overflow_cast-result : goal.overflow_cast-result
overflow_cast-result c =
    let date = c.in-Ok.date in
    let day : days_from_civil date.year date.month date.day ≡ pos (c.args.seconds / 86400) =
    omega (arith, ints, c.in-Ok.ensures.value) in
    let year : pos 0 ≤ℤ date.year = not_before_0 date.year date.month date.day
    (c.args.seconds / 86400) (date.year_in, date.month_in, date.day_in) day in
    omega (arith, ints, year, date.year_in)

pub returns-clause-date : goal.returns-clause-date
returns-clause-date c =
    let date = c.in-Ok.date in
    let day : days_from_civil date.year date.month date.day ≡ pos (c.args.seconds / 86400) =
    omega (arith, ints, c.in-Ok.ensures.value) in
    let year : pos 0 ≤ℤ date.year = not_before_0 date.year date.month date.day
    (c.args.seconds / 86400) (date.year_in, date.month_in, date.day_in) day in
    let same : pos (unsigned_abs (to_z w16 (of_z w16 date.year))) ≡ date.year =
    omega (arith, ints, year, date.year_in) in
    rw same day
