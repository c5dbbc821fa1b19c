-- A run continues after the parts of a condition on the stack as after the rule's condition.
use Rattle.std.proofs.Common.{◌≡◌, ◌∙◌, ℕ, ◌-◌, List, [], ◌∷◌, ◌++◌, length, refl, ap}
use Rattle.std.proofs.Common.{sym, subst, append_assoc, arith, length-append}
use Rattle.std.specs.Prelude.{Option, Some, None, option_and_then, if◌then◌else◌}
use Rattle.std.specs.List.{AllZip}
use Rattle.std.proofs.lemmas.List.{drop_at}
use Rattle.attrs.specs.Attributes.{Attributes}
use Rattle.cells.specs.Arrays.{AppShape}
use Rattle.rule_lang.specs.Meaning.{Behaviour, decide}
use Rattle.rule_lang.specs.Trees.{Tree, Negated, Both, Either, trees_from, with_step}
use Rattle.rule_lang.specs.declared.condition.Step.{Step}
use Rattle.rule_lang.specs.declared.condition.Step.TheVariants as step
use Rattle.rule_lang.specs.declared.test.Test.{Test}
use Rattle.diff_space.specs.declared.plan.PlanStep.{PlanStep}
use Rattle.diff_space.specs.declared.plan.PlanStep.TheVariants as plan_step
use Rattle.diff_space.specs.declared.plan_test.PlanTest.{PlanTest}
use Rattle.diff_space.specs.declared.plan_test.PlanTest.TheVariants.{Constant, Compares, Takes}
use Rattle.diff_space.specs.Coordinates.{Dimension, place_of}
use Rattle.diff_space.specs.Machines.{State, chooses_in, left_in}
use Rattle.diff_space.specs.Plans.{DecidesAs, IsStepOf}
use Rattle.diff_rules.specs.declared.condition.PartTruth.{PartTruth}
use Rattle.diff_rules.specs.declared.truth.Truth.{Truth}
use Rattle.diff_rules.specs.declared.truth.Truth.TheVariants.{Holds, Fails, Needs, Unclear}
use Rattle.diff_rules.specs.Classes.{Agrees}
use Rattle.diff_rules.specs.Stack.{Stacked, after_steps, first_takes, goes_on, part, stacked}
use Rattle.diff_rules.specs.Stack.{stepped, taken_by}
use Rattle.diff_rules.specs.Truths.{PartialPlace, negated}
use Rattle.diff_rules.proofs.Tests.{Goes, test_goes}

-- a part on the stack is one of a tree: it was run after these takes, left those, and the choice
-- continues as it says
pub record IsPartOf (left : ℕ → ℕ) (a : Attributes) (s : AppShape) (c : Tree) (old : List ℕ)
    (p : PartTruth) (new : List ℕ) : Type 0 where
  pub more : List ℕ
  pub new_is : new ≡ more ++ old
  pub start : p.start ≡ length old
  pub goes : (met unmet : Behaviour)
      → Goes left p.truth new met unmet (chooses_in left old (decide a s c met unmet))

undone : (start : ℕ) (more old new : List ℕ) → new ≡ more ++ old → start ≡ length old
    → first_takes start new ≡ old
undone start more old new new_is start_is =
    let both = length-append more old in
    ap (λ (n : ℕ). first_takes n new) start_is
    ∙ ap (first_takes (length old)) new_is
    ∙ drop_at more old (length (more ++ old) - length old) (omega (arith, both))

abbrev NewBy : PlanTest → List ℕ → Type 0
NewBy t taken = (more : List ℕ) × (taken_by t taken ≡ more ++ taken)

new_by : (t : PlanTest) (taken : List ℕ) → NewBy t taken
new_by (Takes at of) taken = (of ∷ [], refl)
new_by (Constant b) taken = ([], refl)
new_by (Compares at r n) taken = ([], refl)

goes_negated : (left : ℕ → ℕ) (t : Truth) (new : List ℕ) (met unmet : Behaviour) (choice : ℕ)
    → Goes left t new unmet met choice → Goes left (negated t) new met unmet choice
goes_negated left Holds new met unmet choice is = is
goes_negated left Fails new met unmet choice is = is
goes_negated left (Needs at) new met unmet choice is = tt
goes_negated left Unclear new met unmet choice is = tt

module _ (left : ℕ → ℕ) (a : Attributes) (s : AppShape) where
  negated_is : (c : Tree) (p : PartTruth) (old new : List ℕ) → IsPartOf left a s c old p new
      → IsPartOf left a s (Negated c) old (part (negated p.truth) p.start) new
  negated_is c p old new is = record {
    more = is.more;
    new_is = is.new_is;
    start = is.start;
    goes = λ met unmet. goes_negated left p.truth new met unmet
        (chooses_in left old (decide a s c unmet met)) (is.goes unmet met);
  }

  -- the second part doesn't count
  first_stays : (b c tree : Tree) (old mid new : List ℕ) (p q : PartTruth)
      → IsPartOf left a s b old p mid → IsPartOf left a s c mid q new
      → ((met unmet : Behaviour)
      → Goes left p.truth mid met unmet (chooses_in left old (decide a s tree met unmet)))
      → IsPartOf left a s tree old p (first_takes q.start new)
  first_stays b c tree old mid new p q first second goes =
      subst (λ (takes : List ℕ). IsPartOf left a s tree old p takes)
      (sym (undone q.start second.more mid new second.new_is second.start))
      (record { more = first.more; new_is = first.new_is; start = first.start; goes = goes })

  second_counts : (b c tree : Tree) (old mid new : List ℕ) (p q : PartTruth)
      → IsPartOf left a s b old p mid → IsPartOf left a s c mid q new
      → ((met unmet : Behaviour) → chooses_in left old (decide a s tree met unmet)
      ≡ chooses_in left mid (decide a s c met unmet))
      → IsPartOf left a s tree old (part q.truth p.start) new
  second_counts b c tree old mid new p q first second goes = record {
    more = second.more ++ first.more;
    new_is =
        second.new_is ∙ ap (λ (xs : List ℕ). second.more ++ xs) first.new_is
        ∙ sym (append_assoc second.more first.more old);
    start = first.start;
    goes = λ met unmet. subst (λ (k : ℕ). Goes left q.truth new met unmet k)
        (sym (goes met unmet)) (second.goes met unmet);
  }

  module _ (first : List ℕ) where
    -- the parts of the trees, run in order
    pub data AreRun : List Tree → List PartTruth → List ℕ → Type 0 where
      nothing : AreRun [] [] first
      next : {ts : List Tree} {ps : List PartTruth} {old new : List ℕ} {c : Tree} {p : PartTruth}
          → AreRun ts ps old → IsPartOf left a s c old p new
          → AreRun (c ∷ ts) (p ∷ ps) new

    abbrev pub Agree : Option (List Tree) → Option Stacked → Type 0
    Agree (Some ts) (Some st) = AreRun ts st.parts st.taken
    Agree None None = Unit {0}
    Agree ts st = ⊥

    both_joined : {ts : List Tree} {ps : List PartTruth} {old mid new : List ℕ} (b c : Tree)
        (t : Truth) (start : ℕ) (q : PartTruth) → AreRun ts ps old
        → IsPartOf left a s b old (part t start) mid → IsPartOf left a s c mid q new
        → Agree (Some (Both b c ∷ ts))
        (if goes_on Holds t then Some (stacked (part q.truth start ∷ ps) new)
        else Some (stacked (part t start ∷ ps) (first_takes q.start new)))
    both_joined {old = old} {mid = mid} {new = new} b c Holds start q rest p r =
        next rest (second_counts b c (Both b c) old mid new (part Holds start) q p r
        (λ met unmet. p.goes (decide a s c met unmet) unmet))
    both_joined {old = old} {mid = mid} {new = new} b c Fails start q rest p r =
        next rest (first_stays b c (Both b c) old mid new (part Fails start) q p r
        (λ met unmet. p.goes (decide a s c met unmet) unmet))
    both_joined {old = old} {mid = mid} {new = new} b c (Needs at) start q rest p r =
        next rest (first_stays b c (Both b c) old mid new (part (Needs at) start) q p r
        (λ met unmet. tt))
    both_joined {old = old} {mid = mid} {new = new} b c Unclear start q rest p r =
        next rest (first_stays b c (Both b c) old mid new (part Unclear start) q p r
        (λ met unmet. tt))

    either_joined : {ts : List Tree} {ps : List PartTruth} {old mid new : List ℕ} (b c : Tree)
        (t : Truth) (start : ℕ) (q : PartTruth) → AreRun ts ps old
        → IsPartOf left a s b old (part t start) mid → IsPartOf left a s c mid q new
        → Agree (Some (Either b c ∷ ts))
        (if goes_on Fails t then Some (stacked (part q.truth start ∷ ps) new)
        else Some (stacked (part t start ∷ ps) (first_takes q.start new)))
    either_joined {old = old} {mid = mid} {new = new} b c Holds start q rest p r =
        next rest (first_stays b c (Either b c) old mid new (part Holds start) q p r
        (λ met unmet. p.goes met (decide a s c met unmet)))
    either_joined {old = old} {mid = mid} {new = new} b c Fails start q rest p r =
        next rest (second_counts b c (Either b c) old mid new (part Fails start) q p r
        (λ met unmet. p.goes met (decide a s c met unmet)))
    either_joined {old = old} {mid = mid} {new = new} b c (Needs at) start q rest p r =
        next rest (first_stays b c (Either b c) old mid new (part (Needs at) start) q p r
        (λ met unmet. tt))
    either_joined {old = old} {mid = mid} {new = new} b c Unclear start q rest p r =
        next rest (first_stays b c (Either b c) old mid new (part Unclear start) q p r
        (λ met unmet. tt))

    agree_then : (f : List Tree → Option (List Tree)) (h : Stacked → Option Stacked)
        → ((ts : List Tree) (st : Stacked) → AreRun ts st.parts st.taken → Agree (f ts) (h st))
        → (o : Option (List Tree)) (q : Option Stacked) → Agree o q
        → Agree (option_and_then f o) (option_and_then h q)
    agree_then f h go (Some ts) (Some st) is = go ts st is
    agree_then f h go None None is = tt
    agree_then f h go (Some ts) None is = absurd is
    agree_then f h go None (Some st) is = absurd is

module _ (Is : Attributes → State → Type 0) (ds : List Dimension) (s : AppShape)
    (a : Attributes) (g : State) (partial : PartialPlace) (within : Is a g)
    (agrees : Agrees (place_of ds a g) partial) (first : List ℕ) where
  test_is : (line : ℕ) (t : Test) (p : PlanTest) → DecidesAs Is ds s t p
      → {ts : List Tree} {ps : List PartTruth} {taken : List ℕ}
      → AreRun (left_in g s) a s first ts ps taken
      → Agree (left_in g s) a s first (with_step (step.Test line t) ts)
      (stepped ds partial (plan_step.Test p) ps taken)
  test_is line t p decides {taken = taken} run =
      let by = new_by p taken in
      next run (record {
        more = by.0;
        new_is = by.1;
        start = refl;
        goes = test_goes Is ds s a g partial within agrees t p decides taken;
      })

  not_is : {ts : List Tree} {ps : List PartTruth} {taken : List ℕ}
      → AreRun (left_in g s) a s first ts ps taken
      → Agree (left_in g s) a s first (with_step step.Not ts)
      (stepped ds partial plan_step.Not ps taken)
  not_is nothing = tt
  not_is (next {old = old} {new = new} {c = c} {p = p} rest is) =
      next rest (negated_is (left_in g s) a s c p old new is)

  and_is : {ts : List Tree} {ps : List PartTruth} {taken : List ℕ}
      → AreRun (left_in g s) a s first ts ps taken
      → Agree (left_in g s) a s first (with_step step.And ts)
      (stepped ds partial plan_step.And ps taken)
  and_is nothing = tt
  and_is (next nothing is) = tt
  and_is (next {c = c} {p = q} (next {c = b} {p = p} rest is) more) =
      both_joined (left_in g s) a s first b c p.truth p.start q rest is more

  or_is : {ts : List Tree} {ps : List PartTruth} {taken : List ℕ}
      → AreRun (left_in g s) a s first ts ps taken
      → Agree (left_in g s) a s first (with_step step.Or ts)
      (stepped ds partial plan_step.Or ps taken)
  or_is nothing = tt
  or_is (next nothing is) = tt
  or_is (next {c = c} {p = q} (next {c = b} {p = p} rest is) more) =
      either_joined (left_in g s) a s first b c p.truth p.start q rest is more

  step_is : (x : Step) (y : PlanStep) → IsStepOf Is ds s x y
      → {ts : List Tree} {ps : List PartTruth} {taken : List ℕ}
      → AreRun (left_in g s) a s first ts ps taken
      → Agree (left_in g s) a s first (with_step x ts) (stepped ds partial y ps taken)
  step_is (step.Test line t) (plan_step.Test p) is run = test_is line t p is run
  step_is (step.Test line t) plan_step.Not is run = absurd is
  step_is (step.Test line t) plan_step.And is run = absurd is
  step_is (step.Test line t) plan_step.Or is run = absurd is
  step_is step.Not (plan_step.Test p) is run = absurd is
  step_is step.Not plan_step.Not is run = not_is run
  step_is step.Not plan_step.And is run = absurd is
  step_is step.Not plan_step.Or is run = absurd is
  step_is step.And (plan_step.Test p) is run = absurd is
  step_is step.And plan_step.Not is run = absurd is
  step_is step.And plan_step.And is run = and_is run
  step_is step.And plan_step.Or is run = absurd is
  step_is step.Or (plan_step.Test p) is run = absurd is
  step_is step.Or plan_step.Not is run = absurd is
  step_is step.Or plan_step.And is run = absurd is
  step_is step.Or plan_step.Or is run = or_is run

  pub steps_are : (xs : List Step) (ys : List PlanStep) → AllZip (IsStepOf Is ds s) xs ys
      → {ts : List Tree} {ps : List PartTruth} {taken : List ℕ}
      → AreRun (left_in g s) a s first ts ps taken
      → Agree (left_in g s) a s first (trees_from ts xs) (after_steps ds partial ps taken ys)
  steps_are [] [] is run = run
  steps_are [] (y ∷ ys) is run = absurd is
  steps_are (x ∷ xs) [] is run = absurd is
  steps_are (x ∷ xs) (y ∷ ys) is {ts} {ps} {taken} run =
      agree_then (left_in g s) a s first (λ us. trees_from us xs)
      (λ st. after_steps ds partial st.parts st.taken ys) (λ us st more. steps_are xs ys is.1 more)
      (with_step x ts) (stepped ds partial y ps taken) (step_is x y is.0 run)
