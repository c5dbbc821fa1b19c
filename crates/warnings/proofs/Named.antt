-- Each version that a rule names has its two spots among the rule's spots.
use Rattle.std.proofs.Common.{◌≡◌, ℕ, List, [], ◌∷◌, ◌++◌, true, ap}
use Rattle.std.proofs.Common.{◌||◌, false}
use Rattle.std.specs.Ordering.{is_eq}
use Rattle.std.specs.Cmp.{tied_itself}
use Rattle.rule_lang.specs.declared.condition.Step.{Step}
use Rattle.rule_lang.specs.declared.condition.Step.TheVariants as step
use Rattle.rule_lang.specs.declared.rule.Statement.{Statement}
use Rattle.rule_lang.specs.declared.rule.Statement.TheVariants.{Count, When}
use Rattle.rule_lang.specs.declared.test.Test.{Test}
use Rattle.rule_lang.specs.declared.test.Test.TheVariants as test
use Rattle.warnings.specs.declared.spot.Spot.{Spot}
use Rattle.warnings.specs.Spots.{add_spot, add_statements, add_step, add_steps, add_version}
use Rattle.warnings.specs.Spots.{has_spot, just_above, lowest_spot, spot_at, spots_of}
use Rattle.warnings.proofs.Comes.{AnswersAlike}
use Rattle.warnings.proofs.Courses.{RuleTests, StepTests, StepsTests}
use Rattle.warnings.proofs.Versions.{Highest, added, answers_alike, spot_total, still_has}

-- ---- a property of all tests

module _ (P Q : Test → Type 0) (to : (t : Test) → P t → Q t) where
  of_step : (s : Step) → StepTests P s → StepTests Q s
  of_step (step.Test line t) h = to t h
  of_step step.Not h = tt
  of_step step.And h = tt
  of_step step.Or h = tt

  pub of_steps : (ss : List Step) → StepsTests P ss → StepsTests Q ss
  of_steps [] h = tt
  of_steps (s ∷ ss) h = (of_step s h.0, of_steps ss h.1)

  pub of_rule : (rule : List Statement) → RuleTests P rule → RuleTests Q rule
  of_rule [] h = tt
  of_rule (Count name index ∷ rest) h = of_rule rest h
  of_rule (When steps release ∷ rest) h = (of_steps steps h.0, of_rule rest h.1)

-- from a rule to the statements before one of them, and to that one
module _ (P : Test → Type 0) (steps : List Step) (release : ℕ) (rest : List Statement) where
  pub of_before : (before : List Statement) → RuleTests P (before ++ When steps release ∷ rest)
      → RuleTests P before
  of_before [] h = tt
  of_before (Count name index ∷ before) h = of_before before h
  of_before (When others k ∷ before) h = (h.0, of_before before h.1)

  pub of_next : (before : List Statement) → RuleTests P (before ++ When steps release ∷ rest)
      → StepsTests P steps
  of_next [] h = h.0
  of_next (Count name index ∷ before) h = of_next before h
  of_next (When others k ∷ before) h = of_next before h.1

-- ---- the spots of a test stay in the list

abbrev HasBoth : List Spot → Test → Type 0
HasBoth spots (test.Version r w) =
    (has_spot spots (spot_at w) ≡ true) × (has_spot spots (just_above w) ≡ true)
HasBoth spots t = Unit {0}

abbrev Keeps : List Spot → List Spot → Type 0
Keeps spots more = (s : Spot) → has_spot spots s ≡ true → has_spot more s ≡ true

keeps_both : (spots more : List Spot) → Keeps spots more → (t : Test) → HasBoth spots t
    → HasBoth more t
keeps_both spots more keeps (test.Version r w) h =
    (keeps (spot_at w) h.0, keeps (just_above w) h.1)
keeps_both spots more keeps t h = tt

keeps_version : (spots : List Spot) (w : List ℕ) → Keeps spots (add_version spots w)
keeps_version spots w s has =
    still_has (add_spot spots (spot_at w)) (just_above w) s (still_has spots (spot_at w) s has)

keeps_step : (spots : List Spot) (x : Step) → Keeps spots (add_step spots x)
keeps_step spots (step.Test line (test.Version r w)) s has = keeps_version spots w s has
keeps_step spots (step.Test line t) s has = has
keeps_step spots x s has = has

keeps_steps : (spots : List Spot) (xs : List Step) → Keeps spots (add_steps spots xs)
keeps_steps spots [] s has = has
keeps_steps spots (x ∷ xs) s has =
    keeps_steps (add_step spots x) xs s (keeps_step spots x s has)

keeps_rule : (spots : List Spot) (rule : List Statement) → Keeps spots (add_statements spots rule)
keeps_rule spots [] s has = has
keeps_rule spots (Count name index ∷ rest) s has = keeps_rule spots rest s has
keeps_rule spots (When steps release ∷ rest) s has =
    keeps_rule (add_steps spots steps) rest s (keeps_steps spots steps s has)

-- ---- each test has its spots

named_step : (spots : List Spot) (x : Step) → StepTests (HasBoth (add_step spots x)) x
named_step spots (step.Test line (test.Version r w)) = (
  still_has (add_spot spots (spot_at w)) (just_above w) (spot_at w) (added spots (spot_at w)),
  added (add_spot spots (spot_at w)) (just_above w),
)
named_step spots (step.Test line t) = tt
named_step spots x = tt

named_steps : (spots : List Spot) (xs : List Step) → StepsTests (HasBoth (add_steps spots xs)) xs
named_steps spots [] = tt
named_steps spots (x ∷ xs) =
    let here = add_step spots x in
    let all = add_steps here xs in (
      of_step (HasBoth here) (HasBoth all) (keeps_both here all (keeps_steps here xs)) x
          (named_step spots x),
      named_steps here xs,
    )

named_rule : (spots : List Spot) (rule : List Statement)
    → RuleTests (HasBoth (add_statements spots rule)) rule
named_rule spots [] = tt
named_rule spots (Count name index ∷ rest) = named_rule spots rest
named_rule spots (When steps release ∷ rest) =
    let here = add_steps spots steps in
    let all = add_statements here rest in (
      of_steps (HasBoth here) (HasBoth all) (keeps_both here all (keeps_rule here rest)) steps
          (named_steps spots steps),
      named_rule here rest,
    )

-- ---- the highest spot that isn't above a version has the same test results as the version

pub has_lowest : (rule : List Statement) → has_spot (spots_of rule) lowest_spot ≡ true
has_lowest rule =
    keeps_rule (lowest_spot ∷ []) rule lowest_spot
    (ap (λ o. is_eq o || false) (tied_itself spot_total lowest_spot))

answers : (spots : List Spot) (v : List ℕ) (h : Highest spots v) (t : Test) → HasBoth spots t
    → AnswersAlike h.spot v t
answers spots v h (test.Version r w) has = answers_alike spots v w h has.0 has.1
answers spots v h t has = tt

pub all_alike : (rule : List Statement) (v : List ℕ) (h : Highest (spots_of rule) v)
    → RuleTests (AnswersAlike h.spot v) rule
all_alike rule v h =
    of_rule (HasBoth (spots_of rule)) (AnswersAlike h.spot v) (answers (spots_of rule) v h) rule
    (named_rule (lowest_spot ∷ []) rule)
