-- The behaviour of a rule is a possible one, for an app that the evaluation represents.
use Rattle.std.proofs.Common.{◌≡◌, ℕ, ◌<◌, ◌≤◌, List, [], ◌∷◌, ◌++◌, inl, inr}
use Rattle.std.proofs.Common.{Option, Some, None, false, ◌&&◌, sym, ap, ◌∙◌}
use Rattle.std.proofs.Common.{arith}
use Rattle.std.specs.Prelude.{nat_le}
use Rattle.std.proofs.lemmas.Bool.{and_cases, leb-false, or_parts}
use Rattle.attrs.specs.Attributes.{Attributes}
use Rattle.cells.specs.Arrays.{AppShape}
use Rattle.cells.specs.declared.event.CellOp.TheVariants.{Add}
use Rattle.rule_lang.specs.declared.condition.Step.{Step}
use Rattle.rule_lang.specs.declared.condition.Step.TheVariants as step
use Rattle.rule_lang.specs.declared.rule.Statement.{Statement}
use Rattle.rule_lang.specs.declared.rule.Statement.TheVariants.{Count, When}
use Rattle.rule_lang.specs.declared.test.Test.{Test}
use Rattle.rule_lang.specs.Meaning.{Operates, Chooses, behaviour, decide_steps}
use Rattle.rule_lang.specs.Shapes.{array_named, cell_of}
use Rattle.rule_lang.specs.Trees.{Tree, Leaf, Negated, Both, Either, trees_from}
use Rattle.warnings.specs.declared.possible.Possible.{Possible}
use Rattle.warnings.specs.Course.{goes_past, may_offer}
use Rattle.warnings.specs.Possible.{steps_possible}
use Rattle.warnings.proofs.Comes.{Comes, Leads}
use Rattle.warnings.proofs.Conditions.{AllTests, OneTree, TestComes, trees_come}

-- ---- from the tests of steps to those of trees

abbrev pub StepTests : (Test → Type 0) → Step → Type 0
StepTests P (step.Test line t) = P t
StepTests P step.Not = Unit {0}
StepTests P step.And = Unit {0}
StepTests P step.Or = Unit {0}

abbrev pub StepsTests : (Test → Type 0) → List Step → Type 0
StepsTests P [] = Unit {0}
StepsTests P (s ∷ ss) = StepTests P s × StepsTests P ss

abbrev pub RuleTests : (Test → Type 0) → List Statement → Type 0
RuleTests P [] = Unit {0}
RuleTests P (Count name index ∷ rest) = RuleTests P rest
RuleTests P (When steps release ∷ rest) = StepsTests P steps × RuleTests P rest

abbrev TreesTests : (Test → Type 0) → List Tree → Type 0
TreesTests P [] = Unit {0}
TreesTests P (c ∷ cs) = AllTests P c × TreesTests P cs

abbrev SomeTests : (Test → Type 0) → Option (List Tree) → Type 0
SomeTests P None = Unit {0}
SomeTests P (Some ts) = TreesTests P ts

trees_tests : (P : Test → Type 0) (ts : List Tree) (ss : List Step) → TreesTests P ts
    → StepsTests P ss → SomeTests P (trees_from ts ss)
trees_tests P ts [] have all = have
trees_tests P ts (step.Test line t ∷ ss) have all =
    trees_tests P (Leaf line t ∷ ts) ss (all.0, have) all.1
trees_tests P [] (step.Not ∷ ss) have all = tt
trees_tests P (c ∷ ts) (step.Not ∷ ss) have all = trees_tests P (Negated c ∷ ts) ss have all.1
trees_tests P [] (step.And ∷ ss) have all = tt
trees_tests P (b ∷ []) (step.And ∷ ss) have all = tt
trees_tests P (b ∷ a ∷ ts) (step.And ∷ ss) have all =
    trees_tests P (Both a b ∷ ts) ss ((have.1.0, have.0), have.1.1) all.1
trees_tests P [] (step.Or ∷ ss) have all = tt
trees_tests P (b ∷ []) (step.Or ∷ ss) have all = tt
trees_tests P (b ∷ a ∷ ts) (step.Or ∷ ss) have all =
    trees_tests P (Either a b ∷ ts) ss ((have.1.0, have.0), have.1.1) all.1

not_lower : (number choice release : ℕ) → number ≤ choice → release ≡ choice
    → nat_le number release ≡ false → ⊥
not_lower number choice release from is lower =
    let under = leb-false number release lower in absurd (omega arith)

module _ (of : Test → Possible) (a : Attributes) (s : AppShape) where
  one_tree : (o : Option (List Tree)) → SomeTests (TestComes of a s) o → OneTree of a s o
  one_tree None all = tt
  one_tree (Some []) all = tt
  one_tree (Some (c ∷ [])) all = all.0
  one_tree (Some (b ∷ c ∷ ts)) all = tt

  steps_come : (steps : List Step) → StepsTests (TestComes of a s) steps
      → Comes (steps_possible of steps) (decide_steps a s steps)
  steps_come steps all =
      trees_come of a s (trees_from [] steps)
      (one_tree (trees_from [] steps) (trees_tests (TestComes of a s) [] steps tt all))

  -- ---- a rule

  -- statements that are never passed make the rest irrelevant
  pub never_past : (before : List Statement) → RuleTests (TestComes of a s) before
      → goes_past of before ≡ false → (rest other : List Statement)
      → behaviour a s (before ++ rest) ≡ behaviour a s (before ++ other)
  never_past [] all never rest other = absurd cc
  never_past (Count name index ∷ before) all never rest other =
      ap (λ b. Operates (cell_of (array_named name s.arrays) index) (Add 1) (λ reply. b))
      (never_past before all never rest other)
  never_past (When steps release ∷ before) all never rest other =
      let comes = steps_come steps all.0 in
      elim (and_cases (steps_possible of steps).fails (goes_past of before) never) [
        | inl here ↦ comes.no_unmet here (Chooses release) (behaviour a s (before ++ rest))
            (behaviour a s (before ++ other))
        | inr later ↦ ap (decide_steps a s steps (Chooses release))
            (never_past before all.1 later rest other)
      ]

  -- equal behaviour after some statements is equal behaviour with them
  behind : (before rest other : List Statement) → behaviour a s rest ≡ behaviour a s other
      → behaviour a s (before ++ rest) ≡ behaviour a s (before ++ other)
  behind [] rest other same = same
  behind (Count name index ∷ before) rest other same =
      ap (λ b. Operates (cell_of (array_named name s.arrays) index) (Add 1) (λ reply. b))
      (behind before rest other same)
  behind (When steps release ∷ before) rest other same =
      ap (decide_steps a s steps (Chooses release)) (behind before rest other same)

  -- the release of a `when` that never holds doesn't matter
  pub never_held : (before : List Statement) (steps : List Step)
      → RuleTests (TestComes of a s) before → StepsTests (TestComes of a s) steps
      → (goes_past of before && (steps_possible of steps).holds) ≡ false
      → (rest : List Statement) (release other : ℕ)
      → behaviour a s (before ++ When steps release ∷ rest)
      ≡ behaviour a s (before ++ When steps other ∷ rest)
  never_held before steps all here never rest release other =
      elim (and_cases (goes_past of before) (steps_possible of steps).holds never) [
        | inl past ↦ never_past before all past (When steps release ∷ rest)
            (When steps other ∷ rest)
        | inr held ↦ behind before (When steps release ∷ rest) (When steps other ∷ rest)
            ((steps_come steps here).no_met held (Chooses release) (Chooses other)
            (behaviour a s rest))
      ]

  chosen : (k choice : ℕ) → Leads (Chooses k) choice → k ≡ choice
  chosen k choice ([], h) = h
  chosen k choice (e ∷ events, h) = absurd h

  -- if a rule may offer neither a release nor a later one, it isn't chosen
  pub never_chosen : (rule : List Statement) (number choice : ℕ)
      → RuleTests (TestComes of a s) rule → may_offer of rule number ≡ false → number ≤ choice
      → 0 < number → Leads (behaviour a s rule) choice → ⊥
  never_chosen [] number choice all never from some h =
      let none = chosen 0 choice h in absurd (omega arith)
  never_chosen (Count name index ∷ rest) number choice all never from some ([], h) = absurd h
  never_chosen (Count name index ∷ rest) number choice all never from some (e ∷ events, h) =
      never_chosen rest number choice all never from some (events, h.3)
  never_chosen (When steps release ∷ rest) number choice all never from some h =
      let p = steps_possible of steps in
      let none = or_parts (p.holds && nat_le number release) (p.fails && may_offer of rest number)
      never in
      elim ((steps_come steps all.0).leads (Chooses release) (behaviour a s rest) choice h) [
        | inl here ↦ elim (and_cases p.holds (nat_le number release) none.0) [
          | inl unheld ↦ absurd (let both = sym unheld ∙ here.0 in cc)
          | inr lower ↦ not_lower number choice release from (chosen release choice here.1) lower
        ]
        | inr later ↦ elim (and_cases p.fails (may_offer of rest number) none.1) [
          | inl unfailed ↦ absurd (let both = sym unfailed ∙ later.0 in cc)
          | inr below ↦ never_chosen rest number choice all.1 below from some later.1
        ]
      ]
