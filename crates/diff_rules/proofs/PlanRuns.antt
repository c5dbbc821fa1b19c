-- What a plan gives on a partial place, the rule gives to each machine in each state that agrees
-- with the place.
use Rattle.std.proofs.Common.{◌≡◌, ℕ, List, [], ◌∷◌, refl, ap, sym, subst}
use Rattle.std.specs.Prelude.{Option, Some, None}
use Rattle.attrs.specs.Attributes.{Attributes}
use Rattle.cells.specs.Arrays.{AppShape}
use Rattle.rule_lang.specs.Meaning.{Behaviour, Chooses, behaviour, decide_one}
use Rattle.rule_lang.specs.Trees.{Tree, trees_from}
use Rattle.rule_lang.specs.declared.rule.Statement.{Statement}
use Rattle.rule_lang.specs.declared.rule.Statement.TheVariants as statement
use Rattle.diff_space.specs.declared.plan.PlanStatement.{PlanStatement}
use Rattle.diff_space.specs.declared.plan.PlanStatement.TheVariants.{Count, When}
use Rattle.diff_space.specs.Coordinates.{Dimension, place_of}
use Rattle.diff_space.specs.Machines.{Side, State, chooses_in, content_of, gets, left_in}
use Rattle.diff_space.specs.Plans.{IsPlanOf}
use Rattle.diff_rules.specs.declared.condition.PartTruth.{PartTruth}
use Rattle.diff_rules.specs.declared.plan_run.PlanRun.{PlanRun}
use Rattle.diff_rules.specs.declared.plan_run.PlanRun.TheVariants as run
use Rattle.diff_rules.specs.declared.truth.Truth.{Truth}
use Rattle.diff_rules.specs.declared.truth.Truth.TheVariants.{Holds, Fails, Needs, Unclear}
use Rattle.diff_rules.specs.Classes.{Agrees}
use Rattle.diff_rules.specs.Stack.{Stacked, after_steps, run_after, run_after_steps}
use Rattle.diff_rules.specs.Stack.{plan_run, run_when}
use Rattle.diff_rules.specs.Truths.{PartialPlace}
use Rattle.diff_rules.proofs.Runs.{Agree, AreRun, next, nothing, steps_are}
use Rattle.diff_rules.proofs.Tests.{Goes}

abbrev RunIs : PlanRun → (content : ℕ) → Type 0
RunIs (run.Gives k) content = content ≡ k
RunIs (run.Needs at) content = Unit {0}
RunIs run.Unclear content = Unit {0}

module _ (left : ℕ → ℕ) (contents : List ℕ) (release : ℕ) (rest : Behaviour) where
  -- the run continues with `rest`
  when_is : (t : Truth) (new : List ℕ) (later : PlanRun) (choice : ℕ)
      → Goes left t new (Chooses release) rest choice
      → RunIs later (content_of contents (chooses_in left new rest))
      → RunIs (run_after t (content_of contents release) later) (content_of contents choice)
  when_is Holds new later choice goes is = ap (content_of contents) goes
  when_is Fails new later choice goes is =
      subst (λ (k : ℕ). RunIs later (content_of contents k)) (sym goes) is
  when_is (Needs at) new later choice goes is = tt
  when_is Unclear new later choice goes is = tt

  module _ (a : Attributes) (s : AppShape) (first : List ℕ) (later : List ℕ → PlanRun)
      (is : (new : List ℕ) → RunIs (later new) (content_of contents (chooses_in left new rest)))
    where
      one_is : {ts : List Tree} {ps : List PartTruth} {new : List ℕ}
          → AreRun left a s first ts ps new
          → RunIs (run_when ps (content_of contents release) (later new))
          (content_of contents
          (chooses_in left first (decide_one a s (Some ts) (Chooses release) rest)))
      one_is nothing = tt
      one_is (next {new = new} {c = c} {p = p} nothing part) =
          when_is p.truth new (later new) _ (part.goes (Chooses release) rest) (is new)
      one_is (next (next more before) part) = tt

      behind_is : (trees : Option (List Tree)) (st : Option Stacked) → Agree left a s first trees st
          → RunIs (run_after_steps st (content_of contents release) later)
          (content_of contents
          (chooses_in left first (decide_one a s trees (Chooses release) rest)))
      behind_is (Some ts) (Some st) run = one_is run
      behind_is None None run = tt
      behind_is (Some ts) None run = absurd run
      behind_is None (Some st) run = absurd run

module _ (Is : Attributes → State → Type 0) (ds : List Dimension) (a : Attributes) (g : State)
    (partial : PartialPlace) (within : Is a g) (agrees : Agrees (place_of ds a g) partial) where
  plan_is : (s : AppShape) (contents : List ℕ) (rule : List Statement)
      (plan : List PlanStatement) → IsPlanOf Is ds s contents rule plan → (taken : List ℕ)
      → RunIs (plan_run ds partial taken plan)
      (content_of contents (chooses_in (left_in g s) taken (behaviour a s rule)))
  plan_is s contents [] [] is taken = refl
  plan_is s contents [] (y ∷ ys) is taken = absurd is
  plan_is s contents (x ∷ xs) [] is taken = absurd is
  plan_is s contents (statement.Count name index ∷ rule) (Count cell ∷ plan) is taken =
      subst (λ (c : ℕ). RunIs (plan_run ds partial (cell ∷ taken) plan)
      (content_of contents (chooses_in (left_in g s) (c ∷ taken) (behaviour a s rule)))) is.0
      (plan_is s contents rule plan is.1 (cell ∷ taken))
  plan_is s contents (statement.Count name index ∷ rule) (When planned content ∷ plan) is taken =
      absurd is.0
  plan_is s contents (statement.When steps release ∷ rule) (Count cell ∷ plan) is taken =
      absurd is.0
  plan_is s contents (statement.When steps release ∷ rule) (When planned content ∷ plan) is
      taken =
      let later : List ℕ → PlanRun = λ new. plan_run ds partial new plan in
      let st = after_steps ds partial [] taken planned in
      subst (λ (k : ℕ). RunIs (run_after_steps st k later) (content_of contents
      (chooses_in (left_in g s) taken (behaviour a s (statement.When steps release ∷ rule)))))
      (sym is.0.1)
      (behind_is (left_in g s) contents release (behaviour a s rule) a s taken later
      (λ new. plan_is s contents rule plan is.1 new) (trees_from [] steps) st
      (steps_are Is ds s a g partial within agrees taken steps planned is.0.0 nothing))

  pub run_is : (side : Side) (plan : List PlanStatement) (k : ℕ)
      → IsPlanOf Is ds side.shape side.contents side.statements plan
      → plan_run ds partial [] plan ≡ run.Gives k → gets side a g ≡ k
  run_is side plan k is gives =
      subst (λ (c : PlanRun). RunIs c (gets side a g)) gives
      (plan_is side.shape side.contents side.statements plan is [])
