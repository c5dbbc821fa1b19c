-- The tree of a condition, from its steps in post-fix order.
use Rattle.std.specs.Prelude.{◌≡◌, ℕ, List, [], ◌∷◌, Option, Some, None, option_and_then}
use Rattle.rule_lang.specs.declared.test.Test.{Test}
use Rattle.rule_lang.specs.declared.condition.Step.{Step}
use Rattle.rule_lang.specs.declared.condition.Step.TheVariants as step

-- a test has its line
pub data Tree : Type 0 where
  Leaf : (line : ℕ) → Test → Tree
  Negated : Tree → Tree
  Both : Tree → Tree → Tree
  Either : Tree → Tree → Tree

-- the trees after one more step, the newest first
abbrev pub with_step : Step → List Tree → Option (List Tree)
with_step (step.Test line t) ts = Some (Leaf line t ∷ ts)
with_step step.Not (c ∷ ts) = Some (Negated c ∷ ts)
with_step step.And (b ∷ a ∷ ts) = Some (Both a b ∷ ts)
with_step step.Or (b ∷ a ∷ ts) = Some (Either a b ∷ ts)
with_step s ts = None

-- the trees after these steps
abbrev pub trees_from : List Tree → List Step → Option (List Tree)
trees_from ts [] = Some ts
trees_from ts (s ∷ ss) = option_and_then (λ us. trees_from us ss) (with_step s ts)

-- the steps make this tree
abbrev pub IsTreeOf : Tree → List Step → Type 0
IsTreeOf c steps = trees_from [] steps ≡ Some (c ∷ [])

-- the steps make one tree
abbrev pub IsCondition : List Step → Type 0
IsCondition steps = (c : Tree) × IsTreeOf c steps
