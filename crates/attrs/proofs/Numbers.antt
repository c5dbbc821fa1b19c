-- How a number is read.
use Rattle.std.proofs.Common.{◌≡◌, ℕ, ◌<◌, ◌≤◌, List, length, get_or, ◌==◌, Some, None}
use Rattle.std.proofs.Common.{Result, Ok, Err, true, false, refl, sym, Bool, cond, arith}
use Rattle.std.specs.Result.{result_ok}
use Rattle.std.specs.Str.{all_ascii_digits}
use Rattle.std.specs.Str.Parse.{ParsesUnsigned, digits_value}
use Rattle.std.proofs.lemmas.Str.Parse.{IsNumeralModel, digits_value_short, parse_plain}
use Rattle.std.proofs.lemmas.Str.Parse.{numerals_by_value, tells_all_ascii_digits}
use Rattle.std.proofs.lemmas.Option.{cond_some, none-some}
use Rattle.std.proofs.lemmas.Grind.{common_steps}
use Rattle.attrs.specs.Version.{decimal_number, is_decimal_number}

pub decimal_number-None : (b : Bool) (n : ℕ) → cond b (Some n) None ≡ None → b ≡ false
decimal_number-None true n h = absurd (none-some n (sym h))
decimal_number-None false n h = refl

digits_are : IsNumeralModel (λ ds. all_ascii_digits ds ≡ true) (digits_value 10)
digits_are = numerals_by_value _ tells_all_ascii_digits

-- without a leading plus sign, `parse` reads exactly the numbers
pub decimal_number-parse : {E : Type 0} (part : List ℕ) (r : Result ℕ E)
    → (get_or part 0 0 == 43) ≡ false → ParsesUnsigned 32 10 part r
    → result_ok r ≡ decimal_number part
decimal_number-parse {E} part (Ok n) plain h =
    let k = parse_plain digits_are {E = E} 32 part (Ok n) h (grind (arith, common_steps)) in
    grind (arith, common_steps)
decimal_number-parse {E} part (Err e) plain h =
    let k = parse_plain digits_are {E = E} 32 part (Err e) h (grind (arith, common_steps)) in
    grind (arith, common_steps)

-- a number of four digits at most is below 10000
pub decimal_number-short : (part : List ℕ) (n : ℕ)
    → length part ≤ 4 → decimal_number part ≡ Some n → n < 10000
decimal_number-short part n short is =
    let number = cond_some (is_decimal_number part) (digits_value 10 part) n is in
    let digits : all_ascii_digits part ≡ true = grind (arith, common_steps, number.0) in
    let value = digits_value_short digits_are part 4 digits short in
    rw (← number.1) value
