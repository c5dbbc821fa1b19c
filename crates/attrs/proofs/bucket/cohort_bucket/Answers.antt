use Rattle.std.proofs.Common.{◌<◌, ◌≤◌, length, sym, ◌∙◌, arith}
use Rattle.std.proofs.lemmas.Grind.{common_steps}
use Rattle.attrs.proofs.Numbers.{decimal_number-short}
use Rattle.attrs.proofs.bucket.cohort_bucket.Goals as goal

in_range : (c : goal.In-Some) → c.in-Some.bucket < 10000
in_range c =
    let stripped = c.in_ok-strip_prefix.ensures.cases in
    let six = c.if-cohort-ne-COHORT_LENGTH.false in
    let short : length c.in_ok-strip_prefix.field-0.now ≤ 4 =
    grind (arith, common_steps, stripped, six) in
    let number = sym c.read_number.ensures ∙ c.in-Some.is in
    decimal_number-short c.in_ok-strip_prefix.field-0.now c.in-Some.bucket short number

pub overflow_cast-bucket : goal.overflow_cast-bucket
overflow_cast-bucket c = omega (arith, in_range c)

pub new-requires : goal.new-requires
new-requires c = in_range c
