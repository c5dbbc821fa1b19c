-- Reading a number.
use Rattle.std.proofs.Common.{◌≡◌, ℕ, List, get_or, ◌==◌, Result, Ok, Err, true, false, arith}
use Rattle.std.specs.Result.{result_ok}
use Rattle.std.specs.Str.{all_ascii_digits}
use Rattle.std.specs.Str.Parse.{ParsesUnsigned, digits_value}
use Rattle.std.proofs.lemmas.Str.Parse.{IsNumeralModel, parse_plain}
use Rattle.std.proofs.lemmas.Str.Parse.{numerals_by_value, tells_all_ascii_digits}
use Rattle.std.proofs.lemmas.Grind.{common_steps}
use Rattle.lexing.specs.Decimal.{long_number}

digits_are : IsNumeralModel (λ ds. all_ascii_digits ds ≡ true) (digits_value 10)
digits_are = numerals_by_value _ tells_all_ascii_digits

-- without a leading plus, `parse` reads exactly the numbers
pub long_number-parse : {E : Type 0} (part : List ℕ) (r : Result ℕ E)
    → (get_or part 0 0 == 43) ≡ false → ParsesUnsigned 64 10 part r
    → result_ok r ≡ long_number part
long_number-parse {E} part (Ok n) plain h =
    let k = parse_plain digits_are {E = E} 64 part (Ok n) h (grind (arith, common_steps)) in
    grind (arith, common_steps)
long_number-parse {E} part (Err e) plain h =
    let k = parse_plain digits_are {E = E} 64 part (Err e) h (grind (arith, common_steps)) in
    grind (arith, common_steps)
