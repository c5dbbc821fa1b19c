-- A plan: a rule whose tests are about cells of dimensions. A test of a plan decides as the rule's
-- test does, for each machine in each state.
use Rattle.std.specs.Prelude.{◌≡◌, ℕ, ◌≤◌, List, Some, None, Bool, nat_lt, slice_get}
use Rattle.std.specs.List.{AllZip}
use Rattle.std.specs.Ordering.{nat_cmp}
use Rattle.attrs.specs.Attributes.{Attributes}
use Rattle.cells.specs.Arrays.{AppShape}
use Rattle.rule_lang.specs.Meaning.{allows, cell_used, test_holds}
use Rattle.rule_lang.specs.Shapes.{array_named, cell_of}
use Rattle.rule_lang.specs.declared.condition.Step.{Step}
use Rattle.rule_lang.specs.declared.condition.Step.TheVariants as step
use Rattle.rule_lang.specs.declared.rule.Statement.{Statement}
use Rattle.rule_lang.specs.declared.rule.Statement.TheVariants as statement
use Rattle.rule_lang.specs.declared.test.Comparison.{Comparison}
use Rattle.rule_lang.specs.declared.test.Test.{Test}
use Rattle.diff_space.specs.declared.plan.PlanStatement.{PlanStatement}
use Rattle.diff_space.specs.declared.plan.PlanStatement.TheVariants.{Count, When}
use Rattle.diff_space.specs.declared.plan.PlanStep.{PlanStep}
use Rattle.diff_space.specs.declared.plan.PlanStep.TheVariants as plan_step
use Rattle.diff_space.specs.declared.plan_test.PlanTest.{PlanTest}
use Rattle.diff_space.specs.declared.plan_test.PlanTest.TheVariants.{Constant, Compares, Takes}
use Rattle.diff_space.specs.Coordinates.{Dimension, begin_of, cell_in, last_in, number_of}
use Rattle.diff_space.specs.Machines.{State, content_of, left_in, reply_after}

-- a number of a cell
pub record IsInCell (d : Dimension) (cell n : ℕ) : Type 0 where
  pub from : begin_of d cell ≤ n
  pub to : n ≤ last_in d cell

-- for the machines in states that are compared, the dimensions, and the shape of the rule's app
module _ (Is : Attributes → State → Type 0) (ds : List Dimension) (s : AppShape) where
  -- the test uses no cell, and holds for all, or for none
  pub record IsConstant (t : Test) (b : Bool) : Type 0 where
    pub no_cell : cell_used s t ≡ None
    pub holds : (a : Attributes) (g : State) → Is a g → test_holds a s 0 t ≡ b

  -- the test uses no cell, and holds if the start of the machine's cell compares so with n
  pub record ComparesAs (t : Test) (at : ℕ) (r : Comparison) (n : ℕ) : Type 0 where
    pub dimension : Dimension
    pub is_at : slice_get ds at ≡ Some dimension
    pub no_cell : cell_used s t ≡ None
    pub holds : (a : Attributes) (g : State) → Is a g
        → test_holds a s 0 t ≡ allows r (nat_cmp (begin_of dimension (cell_in dimension a g)) n)

  -- the test takes from this cell, and holds if fewer were taken than the dimension's number
  pub record TakesOf (t : Test) (at cell : ℕ) : Type 0 where
    pub dimension : Dimension
    pub is_at : slice_get ds at ≡ Some dimension
    pub its_cell : cell_used s t ≡ Some cell
    pub in_cell : (a : Attributes) (g : State) → Is a g
        → IsInCell dimension (cell_in dimension a g) (number_of dimension a g)
    pub holds : (a : Attributes) (g : State) → Is a g → (taken : ℕ)
        → test_holds a s (reply_after (left_in g s cell) taken) t
        ≡ nat_lt taken (number_of dimension a g)

  -- a test of a plan decides as the rule's test does
  abbrev pub DecidesAs : Test → PlanTest → Type 0
  DecidesAs t (Constant b) = IsConstant t b
  DecidesAs t (Compares at r n) = ComparesAs t at r n
  DecidesAs t (Takes at cell) = TakesOf t at cell

  abbrev pub IsStepOf : Step → PlanStep → Type 0
  IsStepOf (step.Test line t) (plan_step.Test p) = DecidesAs t p
  IsStepOf step.Not plan_step.Not = Unit {0}
  IsStepOf step.And plan_step.And = Unit {0}
  IsStepOf step.Or plan_step.Or = Unit {0}
  IsStepOf x y = ⊥

  -- a count of the same cell, or a `when` that gives the content of its release
  abbrev pub IsStatementOf : (contents : List ℕ) → Statement → PlanStatement → Type 0
  IsStatementOf contents (statement.Count name index) (Count cell) =
      cell ≡ cell_of (array_named name s.arrays) index
  IsStatementOf contents (statement.When steps release) (When planned content) =
      AllZip IsStepOf steps planned × (content ≡ content_of contents release)
  IsStatementOf contents x y = ⊥

  -- a plan has a statement for each of the rule's
  abbrev pub IsPlanOf : (contents : List ℕ) → List Statement → List PlanStatement → Type 0
  IsPlanOf contents statements plan = AllZip (IsStatementOf contents) statements plan
