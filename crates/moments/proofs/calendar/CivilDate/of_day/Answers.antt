use Rattle.std.proofs.Common.{arith, rules}
use Rattle.std.proofs.lemmas.Int.{ints}
use Rattle.moments.proofs.Dates.{is_date, same_date}
use Rattle.moments.proofs.calendar.CivilDate.of_day.Goals as goal

pub overflow_cast-result : goal.overflow_cast-result
overflow_cast-result c =
    let same = is_date c.args.day c.in-Ok.date c.requires (search rules) in
    omega (arith, ints, same.0, c.in-Ok.date.year_in)

pub returns : goal.returns
returns c =
    let same = is_date c.args.day c.in-Ok.date c.requires (search rules) in
    same_date _ _ _ _ (omega (arith, ints, same.0, c.in-Ok.date.year_in)) same.1 same.2
