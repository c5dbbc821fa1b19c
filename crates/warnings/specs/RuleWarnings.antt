-- Warnings on an app's rule: on its tests, which are read, and on its `when`s and releases, for
-- which it is evaluated.
use Rattle.std.specs.Prelude.{ℕ, ◌+◌, List, [], ◌∷◌, ◌++◌, not}
use Rattle.std.specs.Prelude.{length, Bool, true, false, ◌&&◌, nat_lt, if◌then◌else◌}
use Rattle.std.specs.Prelude.{Option, Some, None, is_some, option_and_then, unwrap_or, codes}
use Rattle.std.specs.Prelude.{nat_eq}
use Rattle.std.specs.List.{list_any, starts_with}
use Rattle.attrs.specs.Bucket.{cohort_bucket}
use Rattle.attrs.specs.declared.vocabulary.Attribute.TheVariants.{Cohort}
use Rattle.releases.specs.Release.{Release}
use Rattle.rule_lang.specs.declared.condition.Step.{Step}
use Rattle.rule_lang.specs.declared.condition.Step.TheVariants as step
use Rattle.rule_lang.specs.declared.rule.Statement.{Statement}
use Rattle.rule_lang.specs.declared.rule.Statement.TheVariants.{Count, When}
use Rattle.rule_lang.specs.declared.test.Comparison.{Comparison}
use Rattle.rule_lang.specs.declared.test.Comparison.TheVariants.{Eq, Le, Lt}
use Rattle.rule_lang.specs.declared.test.Test.{Test}
use Rattle.rule_lang.specs.declared.test.Test.TheVariants as test
use Rattle.warnings.specs.declared.spot.Spot.{Spot}
use Rattle.warnings.specs.declared.warning.WarningPlace.{WarningPlace}
use Rattle.warnings.specs.declared.warning.WarningPlace.TheVariants as place
use Rattle.warnings.specs.declared.warning.Warning.{Warning}
use Rattle.warnings.specs.declared.warning.WarningKind.{WarningKind}
use Rattle.warnings.specs.declared.warning.WarningKind.TheVariants as kind
use Rattle.warnings.specs.Budget.{budget_less, budget_taken}
use Rattle.warnings.specs.Evaluation.{RuleOfApp, all_buckets, arrives, may_end, may_give, someone}
use Rattle.warnings.specs.Getting.{client_evaluations, someone_gets}
use Rattle.warnings.specs.Spots.{spots_of}
use Rattle.warnings.specs.Warnings.{warned, warned_if}

-- ---- a test whose number is probably wrong, with or without a salt: 5 percent is 500, not 5; 25
-- percent is 2500, not 25000

-- less than one percent, but not none
abbrev pub is_few : (buckets : ℕ) → Bool
is_few buckets = nat_lt 0 buckets && nat_lt buckets 100

-- more than there are buckets, so the test holds for all
abbrev pub is_above_all : (number : ℕ) → Bool
is_above_all number = nat_lt all_buckets number

-- the test with this sign and number holds for `buckets` buckets
abbrev pub part_warning : WarningPlace → (up_to : Bool) → (number buckets : ℕ) → List Warning
part_warning at up_to number buckets =
    if is_few buckets then warned at (kind.FewBuckets up_to number buckets)
    else warned_if (is_above_all number) at (kind.AllBuckets up_to number)

-- `< n` holds for the n buckets from 0 to n - 1, and `<= n` for those and n
abbrev pub test_warning : (app line : ℕ) → Test → List Warning
test_warning app line (test.Bucket salt None Lt n) = part_warning (place.Line app line) false n n
test_warning app line (test.Bucket salt None Le n) =
    part_warning (place.Line app line) true n (n + 1)
test_warning app line t = []

-- ---- a day or a cohort that is probably wrong

-- a day before 2026, but not day 0
abbrev pub is_early : (day : ℕ) → Bool
is_early day = nat_lt 0 day && nat_lt day 6940

-- begins like the cohort of a reply, which is `b:` and four digits
abbrev pub is_no_cohort : List ℕ → Bool
is_no_cohort text = starts_with nat_eq text (codes "b:") && not (is_some (cohort_bucket text))

abbrev pub value_warning : (app line : ℕ) → Test → List Warning
value_warning app line (test.Today r day) =
    warned_if (is_early day) (place.Line app line) kind.EarlyDay
value_warning app line (test.Attr Cohort text) =
    warned_if (is_no_cohort text) (place.Line app line) kind.NoCohort
value_warning app line t = []

-- ---- the tests of a condition

-- whatever surrounds it, such as `not` or a condition that never holds
abbrev pub parts_of_step : (app : ℕ) → Step → List Warning
parts_of_step app (step.Test line t) = test_warning app line t ++ value_warning app line t
parts_of_step app s = []

abbrev pub parts_of_steps : (app : ℕ) → List Step → List Warning
parts_of_steps app [] = []
parts_of_steps app (s ∷ ss) = parts_of_step app s ++ parts_of_steps app ss

-- ---- a take before the version, which counts whatever the version is

abbrev pub tests_version : Step → Bool
tests_version (step.Test line (test.Version r version)) = true
tests_version s = false

abbrev pub take_warning : (app : ℕ) → Step → (later : Bool) → List Warning
take_warning app (step.Test line (test.Take name index)) later =
    warned_if later (place.Line app line) kind.TakeBeforeVersion
take_warning app s later = []

-- each take before the first test of the version, if there is one
abbrev pub takes_of_steps : (app : ℕ) → List Step → List Warning
takes_of_steps app [] = []
takes_of_steps app (s ∷ ss) =
    if tests_version s then []
    else take_warning app s (list_any tests_version ss) ++ takes_of_steps app ss

-- ---- the tests of a rule

abbrev pub parts_of_rule : (app : ℕ) → List Statement → List Warning
parts_of_rule app [] = []
parts_of_rule app (Count name index ∷ rest) = parts_of_rule app rest
parts_of_rule app (When steps release ∷ rest) =
    (parts_of_steps app steps ++ takes_of_steps app steps) ++ parts_of_rule app rest

-- ---- a `when`, by the line of its first test

abbrev pub first_line : List Step → ℕ
first_line (step.Test line t ∷ steps) = line
first_line steps = 0

-- no app reaches it; or the apps that reach it continue after it
abbrev pub when_warning : (app : ℕ) → (ends reached : Bool) → List Step → List Warning
when_warning app true reached steps = []
when_warning app false true steps = warned (place.Line app (first_line steps)) kind.NeverHolds
when_warning app false false steps = warned (place.Line app (first_line steps)) kind.NeverReached

abbrev pub statement_warning : (app : ℕ) → RuleOfApp → List Spot → (before : List Statement)
    → Statement → List Warning
statement_warning app r spots before (Count name index) = []
statement_warning app r spots before (When steps release) =
    when_warning app (someone r spots (may_end r before (When steps release)))
    (someone r spots (arrives r before)) steps

-- a statement's warning by its marks
abbrev pub marked_warning : (app : ℕ) → (ends reached : Bool) → Statement → List Warning
marked_warning app ends reached (Count name index) = []
marked_warning app ends reached (When steps release) = when_warning app ends reached steps

-- the warnings of the statements `rest`, which come after `before`
abbrev pub statements_from : (app : ℕ) → RuleOfApp → List Spot → (before rest : List Statement)
    → List Warning
statements_from app r spots before [] = []
statements_from app r spots before (st ∷ rest) =
    statement_warning app r spots before st ++ statements_from app r spots (before ++ st ∷ []) rest

-- ---- a release

-- neither this release nor a later one is given
abbrev pub ungiven_warning : (given : Bool) → (app number : ℕ) → List Warning
ungiven_warning given app number = warned_if (not given) (place.Release app number) kind.NoBucket

-- a client that has this version gets a release whose version compares by `by` with it
abbrev pub got_at : WarningPlace → RuleOfApp → Comparison → (version : List ℕ) → WarningKind
    → List Warning
got_at at r by version what =
    warned_if (someone_gets r by version) at what

abbrev pub got_warning : (app number : ℕ) → RuleOfApp → Comparison → (version : List ℕ)
    → WarningKind → List Warning
got_warning app number r by version what = got_at (place.Release app number) r by version what

abbrev pub given_warnings : (app number : ℕ) → RuleOfApp → (given : Bool) → Release
    → List Warning
given_warnings app number r given release =
    ungiven_warning given app number
    ++ got_warning app number r Eq release.version kind.OfferedAgain
    ++ got_warning app number r Lt release.version kind.OfferedLower

abbrev pub evaluated_releases : (app number : ℕ) → RuleOfApp → List Spot → List Release
    → List Warning
evaluated_releases app number r spots [] = []
evaluated_releases app number r spots (release ∷ later) =
    given_warnings app number r (someone r spots (may_give r number)) release
    ++ evaluated_releases app (number + 1) r spots later

-- ---- the budget of evaluation

-- what is left after evaluating a rule at `versions` versions, and for the clients of its `when`s
abbrev pub budget_by : (versions : ℕ) → RuleOfApp → (budget : ℕ) → Option ℕ
budget_by versions r budget =
    option_and_then
    (budget_less (budget_taken (unwrap_or (client_evaluations r) 0) r.rule))
    (budget_less (budget_taken versions r.rule) budget)

abbrev pub budget_after : RuleOfApp → (budget : ℕ) → Option ℕ
budget_after r budget = budget_by (length (spots_of r.rule) + length r.releases) r budget

-- the budget of all rules of a manifest
abbrev pub whole_budget : ℕ
whole_budget = 10000

-- ---- the whole

abbrev pub evaluated_warnings : (app : ℕ) → RuleOfApp → List Warning
evaluated_warnings app r =
    statements_from app r (spots_of r.rule) [] r.rule
    ++ evaluated_releases app 1 r (spots_of r.rule) r.releases

-- evaluated if the budget is enough, else the warning that it isn't
abbrev pub warnings_within : Option ℕ → (app : ℕ) → RuleOfApp → List Warning
warnings_within (Some left) app r = evaluated_warnings app r
warnings_within None app r = warned (place.App app) kind.NotEvaluated

-- tests are read in any case
abbrev pub rule_warnings : (app budget : ℕ) → RuleOfApp → List Warning
rule_warnings app budget r = parts_of_rule app r.rule
    ++ warnings_within (budget_after r budget) app r

-- a rule that isn't evaluated costs nothing
abbrev pub budget_left : (budget : ℕ) → RuleOfApp → ℕ
budget_left budget r = unwrap_or (budget_after r budget) budget
