-- What the tests of a condition require of a client: texts, flags and days.
use Rattle.std.specs.Prelude.{ℕ, ◌+◌, List, [], ◌∷◌, Bool, true, false, not, ◌==◌, ◌||◌}
use Rattle.std.specs.Prelude.{min, max}
use Rattle.std.specs.Prelude.{Option, Some, None, if◌then◌else◌}
use Rattle.std.specs.Option.{option_or}
use Rattle.attrs.specs.Vocabulary.{attribute_number, flag_bit}
use Rattle.attrs.specs.declared.vocabulary.Attribute.{Attribute}
use Rattle.attrs.specs.declared.vocabulary.Flag.{Flag}
use Rattle.attrs.specs.declared.vocabulary.Flag.TheVariants.{InstalldateKnown}
use Rattle.rule_lang.specs.declared.condition.Step.{Step}
use Rattle.rule_lang.specs.declared.condition.Step.TheVariants as step
use Rattle.rule_lang.specs.declared.test.Comparison.{Comparison}
use Rattle.rule_lang.specs.declared.test.Comparison.TheVariants.{Lt, Le, Eq, Ne, Ge, Gt}
use Rattle.rule_lang.specs.declared.test.Test.{Test}
use Rattle.rule_lang.specs.declared.test.Test.TheVariants as test
use Rattle.warnings.specs.declared.wanted.DayOf.{DayOf}
use Rattle.warnings.specs.declared.wanted.DayOf.TheVariants.{Installation, Request}

-- ---- a step

-- a `not` comes next
abbrev pub is_negated : (rest : List Step) → Bool
is_negated (step.Not ∷ rest) = true
is_negated rest = false

abbrev pub test_in : Step → Option Test
test_in (step.Test line t) = Some t
test_in s = None

-- the test of a step, unless a `not` follows it
abbrev pub wanted : Step → (rest : List Step) → Option Test
wanted s rest = if is_negated rest then None else test_in s

-- ---- texts

-- the text with which a test compares this attribute
abbrev pub text_in : Attribute → Option Test → Option (List ℕ)
text_in name (Some (test.Attr n text)) =
    if attribute_number n == attribute_number name then Some text else None
text_in name t = None

-- the first such text
abbrev pub wanted_text : Attribute → List Step → Option (List ℕ)
wanted_text name [] = None
wanted_text name (s ∷ rest) = option_or (text_in name (wanted s rest)) (wanted_text name rest)

-- ---- flags

abbrev pub is_of_flag : Flag → Option Test → Bool
is_of_flag flag (Some (test.Flag f)) = flag_bit f == flag_bit flag
is_of_flag flag t = false

-- some test is of this flag
abbrev pub wants : Flag → List Step → Bool
wants flag [] = false
wants flag (s ∷ rest) = is_of_flag flag (wanted s rest) || wants flag rest

-- ---- days

-- the first day that compares so with the number; day 0 if none does
abbrev pub first_day : Comparison → ℕ → ℕ
first_day Eq n = n
first_day Ge n = n
first_day Gt n = min (n + 1) 4294967295
first_day Ne n = if n == 0 then 1 else 0
first_day r n = 0

-- how numbers compare that don't compare so
abbrev pub opposite : Comparison → Comparison
opposite Lt = Ge
opposite Le = Gt
opposite Eq = Ne
opposite Ne = Eq
opposite Ge = Lt
opposite Gt = Le

-- how a day has to compare
abbrev pub required : (negated : Bool) → Comparison → Comparison
required negated r = if negated then opposite r else r

-- the first day for which a test of this day holds, or fails if it is negated; any day is known for
-- `flag installdate_known`
abbrev pub day_in : DayOf → (negated : Bool) → Option Test → Option ℕ
day_in Request negated (Some (test.Today r n)) = Some (first_day (required negated r) n)
day_in Installation negated (Some (test.Installed r n)) = Some (first_day (required negated r) n)
day_in Installation negated (Some (test.Flag InstalldateKnown)) =
    if negated then None else Some 0
day_in day negated t = None

abbrev pub later : Option ℕ → Option ℕ → Option ℕ
later (Some a) (Some b) = Some (max a b)
later (Some a) None = Some a
later None other = other

-- the latest of `found` and these first days
abbrev pub latest_day : DayOf → (found : Option ℕ) → List Step → Option ℕ
latest_day day found [] = found
latest_day day found (s ∷ rest) =
    latest_day day (later found (day_in day (is_negated rest) (test_in s))) rest

abbrev pub wanted_day : DayOf → List Step → Option ℕ
wanted_day day steps = latest_day day None steps

-- ---- a condition

-- a test of a day, or one of an attribute or a flag that isn't negated
abbrev pub is_of_client : (negated : Bool) → Option Test → Bool
is_of_client negated (Some (test.Attr n text)) = not negated
is_of_client negated (Some (test.Flag f)) = not negated
is_of_client negated (Some (test.Today r n)) = true
is_of_client negated (Some (test.Installed r n)) = true
is_of_client negated t = false

-- some test requires more than a version, a bucket or a counter
abbrev pub needs_more : List Step → Bool
needs_more [] = false
needs_more (s ∷ rest) = is_of_client (is_negated rest) (test_in s) || needs_more rest
